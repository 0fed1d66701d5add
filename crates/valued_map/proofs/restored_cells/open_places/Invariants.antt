use Rattle.std.proofs.Common.{ℕ, ◌≡◌, ◌<◌, IsSome}
use Rattle.store_defs.specs.Labelings.{HasPlaces, KeepsIds}
use Rattle.store_defs.specs.Groups.{rule_at}
use Rattle.valued_map.proofs.restored_cells.open_places.Given as goal

abbrev pub invariant-loop-dim : goal.invariant-loop-dim
invariant-loop-dim g l =
    (l.labels.made ≡ l.fn.labels.made) × KeepsIds l.fn.labels l.labels × ((i : ℕ) → HasPlaces l.fn.labels i → HasPlaces l.labels i)
    × ((i : ℕ) → i < l.dim → IsSome (rule_at l.rules i) → HasPlaces l.labels i)
