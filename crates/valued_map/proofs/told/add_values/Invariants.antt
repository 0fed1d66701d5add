use Rattle.std.proofs.Common.{◌≡◌, ℕ, ◌++◌, map, take, Contains}
use Rattle.store_defs.specs.Labelings.{Labeling}
use Rattle.valued_map.specs.Told.{IsBefore, old_value}
use Rattle.valued_map.proofs.told.add_values.Given as goal

abbrev pub invariant-loop-dart : goal.invariant-loop-dart
invariant-loop-dart g l =
    (before : Labeling) → ((d : ℕ) → Contains l.darts d → IsBefore l.older before l.labels l.dim d)
    → l.values.items ≡ l.fn.values.items ++ map (old_value before l.pool l.dim) (take l.dart-index l.darts)
