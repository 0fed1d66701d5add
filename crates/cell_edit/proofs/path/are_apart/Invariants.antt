use Rattle.cell_edit.proofs.Apart.{AreSeen}
use Rattle.cell_edit.proofs.path.are_apart.Given as goal

abbrev pub invariant-loop-dart : goal.invariant-loop-dart
invariant-loop-dart l = AreSeen l.darts l.dart-index l.seen.keys
