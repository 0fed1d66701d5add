use Rattle.map_defs.specs.Rows.{links_of}
use Rattle.map_defs.specs.Cells.{InCell}
use Rattle.transport.specs.Found.{AreHeld}
use Rattle.transport.proofs.touched.cells_of_few.Given as goal

abbrev pub invariant-loop-dart : goal.invariant-loop-dart
invariant-loop-dart g l = AreHeld (InCell g.K.Kind.kind (links_of l.links.rows) l.dim) l.dim l.dart-index l.touched l.cells.items
