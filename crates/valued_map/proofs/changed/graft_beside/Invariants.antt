use Rattle.std.proofs.Common.{ℕ, ◌<◌, ◌≤◌, ◌≡◌, None}
use Rattle.store_defs.specs.Labelings.{id_of}
use Rattle.label_laws.specs.Touching.{AreGrafted}
use Rattle.valued_map.specs.Changing.{IsBeside}
use Rattle.valued_map.proofs.changed.graft_beside.Given as goal

abbrev pub invariant-loop-number : goal.invariant-loop-number
invariant-loop-number g l =
    (l.older < l.number) × AreGrafted g.K.Kind.kind l.links.rows l.older (λ i. i ≡ l.dim) l.fn.labels l.labels
    × ((d : ℕ) → l.number ≤ d → id_of l.labels l.dim d ≡ None)
    × ((x : ℕ) → l.older < x → x < l.number → IsBeside g.K.Kind.kind l.dim l.links.rows l.older l.labels x)
