use Rattle.std.proofs.Common.{◌+◌, ◌*◌, ◌≤◌, length, take}
use Rattle.std.specs.Prelude.{vec_len, vec_capacity}
use Rattle.map_defs.specs.Rows.{links_of}
use Rattle.cell_edit.specs.Writing.{WritesEntries}
use Rattle.cell_edit.specs.Bridging.{IsCellEntry}
use Rattle.cell_edit.proofs.ending.ending_changes.Given as goal

abbrev pub invariant-loop-dart : goal.invariant-loop-dart
invariant-loop-dart g l =
    WritesEntries (links_of l.links.rows) (IsCellEntry g.K.Kind.kind (links_of l.links.rows) l.link l.beside (g.row.DIM + 1) l.darts (take l.dart-index l.darts)) l.changes.items
    × (vec_len l.changes ≤ l.dart-index * (g.row.DIM + 2)) × (length l.darts * (g.row.DIM + 2) ≤ vec_capacity l.changes)
