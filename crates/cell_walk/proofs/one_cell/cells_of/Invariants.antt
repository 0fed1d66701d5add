use Rattle.std.proofs.Common.{take}
use Rattle.map_defs.specs.Rows.{links_of}
use Rattle.cell_walk.specs.CellLists.{AreCellsOf}
use Rattle.cell_walk.proofs.one_cell.cells_of.Given as goal

abbrev pub invariant-loop-dart : goal.invariant-loop-dart
invariant-loop-dart g l = AreCellsOf g.K.Kind.kind (links_of l.links.rows) l.fn.dim (take l.dart-index l.darts) l.cells
