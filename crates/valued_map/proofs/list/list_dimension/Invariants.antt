use Rattle.std.proofs.Common.{take}
use Rattle.label_laws.proofs.ListedValues.{AreBehind}
use Rattle.valued_map.proofs.list.list_dimension.Given as goal

abbrev pub invariant-loop-dart : goal.invariant-loop-dart
invariant-loop-dart g l = AreBehind l.labels l.pool l.dim (take l.dart-index l.dart-items) l.fn.values.items l.values.items
