use Rattle.std.proofs.Common.{◌≡◌, take, Contains}
use Rattle.label_laws.specs.Changing.{AreTaken}
use Rattle.valued_map.proofs.ids.take_ids.Given as goal

abbrev pub invariant-loop-dart : goal.invariant-loop-dart
invariant-loop-dart g l = AreTaken (λ j d. (j ≡ l.dim) × Contains (take l.dart-index l.darts) d) l.fn.labels l.labels l.fn.pool l.pool
