use Rattle.std.proofs.Common.{◌+◌, ◌*◌, ◌≤◌, length, take}
use Rattle.std.specs.Prelude.{vec_len, vec_capacity}
use Rattle.map_defs.specs.Rows.{links_of}
use Rattle.cell_edit.specs.Stars.{star_of}
use Rattle.cell_edit.specs.Writing.{WritesEntries}
use Rattle.face_center.specs.Hanging.{tip_of, AreHungEntries}
use Rattle.face_center.proofs.hanging.hung_changes.Given as goal

abbrev pub invariant-loop-place : goal.invariant-loop-place
invariant-loop-place g l =
    WritesEntries (links_of l.links.rows)
    (AreHungEntries g.K.Kind.kind l.hanging (links_of l.links.rows) (star_of l.stars) (tip_of l.stars) (g.row.DIM + 1) (take l.place l.stars.keys)) l.changes.items
    × (vec_len l.changes ≤ l.place * (2 * g.row.DIM + 4)) × (length l.stars.keys * (2 * g.row.DIM + 4) ≤ vec_capacity l.changes)
