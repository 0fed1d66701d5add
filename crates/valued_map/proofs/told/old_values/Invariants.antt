use Rattle.std.proofs.Common.{ℕ}
use Rattle.store_defs.specs.Labelings.{Labeling}
use Rattle.valued_map.specs.Told.{AreOldValues, IsBefore}
use Rattle.valued_map.proofs.GroupedDarts.{IsPlaceIn}
use Rattle.valued_map.proofs.told.old_values.Given as goal

abbrev pub invariant-loop-dim : goal.invariant-loop-dim
invariant-loop-dim g l = (before : Labeling) → ((i d : ℕ) → IsBefore l.older before l.labels i d) → AreOldValues (IsPlaceIn l.renewed l.groups l.dim) before l.pool l.values.items
