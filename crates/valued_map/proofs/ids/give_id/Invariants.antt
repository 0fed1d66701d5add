use Rattle.std.proofs.Common.{take, Contains}
use Rattle.label_laws.specs.Changing.{HaveId}
use Rattle.valued_map.proofs.ids.give_id.Given as goal

abbrev pub invariant-loop-dart : goal.invariant-loop-dart
invariant-loop-dart g l = HaveId l.dim (Contains (take l.dart-index l.darts)) l.id l.fn.labels l.labels
