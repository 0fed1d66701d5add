use Rattle.std.proofs.Common.{◌≡◌, ◌+◌, ◌*◌, ◌≤◌, List}
use Rattle.std.specs.Prelude.{vec_len, vec_capacity}
use Rattle.map_defs.specs.Edits.{Change}
use Rattle.map_defs.specs.Rows.{links_of}
use Rattle.cell_edit.specs.Stars.{star_of}
use Rattle.cell_edit.specs.Writing.{Appends}
use Rattle.face_center.specs.Hanging.{tip_of, IsNewEntry}
use Rattle.face_center.proofs.hanging.push_new.Given as goal

abbrev pub invariant-loop-at : goal.invariant-loop-at
invariant-loop-at g l =
    ((a : List Change) → Appends (links_of l.links.rows) (IsNewEntry g.K.Kind.kind l.hanging (links_of l.links.rows) (star_of l.stars) (tip_of l.stars) 3 l.dart) a l.initial.changes.items
    → Appends (links_of l.links.rows) (IsNewEntry g.K.Kind.kind l.hanging (links_of l.links.rows) (star_of l.stars) (tip_of l.stars) l.at l.dart) a l.changes.items)
    × (vec_capacity l.changes ≡ vec_capacity l.initial.changes) × (vec_len l.changes + 6 ≤ vec_len l.initial.changes + 2 * l.at) × (3 ≤ l.at) × (l.at ≤ g.row.DIM + 1)
