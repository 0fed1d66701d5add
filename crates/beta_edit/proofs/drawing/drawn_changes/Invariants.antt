use Rattle.std.proofs.Common.{◌+◌, take}
use Rattle.map_defs.specs.Rows.{links_of}
use Rattle.cell_edit.specs.Writing.{WritesEntries}
use Rattle.beta_edit.specs.Drawing.{IsCellEntry}
use Rattle.beta_edit.proofs.drawing.drawn_changes.Given as goal

abbrev pub invariant-loop-dart : goal.invariant-loop-dart
invariant-loop-dart g l = WritesEntries (links_of l.links.rows) (IsCellEntry (links_of l.links.rows) l.beside l.darts (g.row.DIM + 1) (take l.dart-index l.darts)) l.changes.items
