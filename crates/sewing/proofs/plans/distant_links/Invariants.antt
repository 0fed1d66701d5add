use Rattle.std.proofs.Common.{ℕ, ◌≡◌, ◌<◌, ◌≤◌, ◌↔◌, length, take, Contains}
use Rattle.map_defs.specs.Kind.{IsDistant}
use Rattle.sewing.proofs.plans.distant_links.Given as goal

abbrev pub invariant-loop-other : goal.invariant-loop-other
invariant-loop-other g l =
    ((j : ℕ) → Contains (take l.count l.distant) j ↔ ((j < l.other) × IsDistant g.K.Kind.kind l.link j))
    × (l.count ≤ l.other) × (length l.distant ≡ 9)
