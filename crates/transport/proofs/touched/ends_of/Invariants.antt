use Rattle.transport.proofs.MarkFacts.{AreEnds}
use Rattle.transport.proofs.touched.ends_of.Given as goal

abbrev pub invariant-loop-dart : goal.invariant-loop-dart
invariant-loop-dart l = AreEnds l.darts l.dart-index l.first l.last
