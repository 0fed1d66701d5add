use Rattle.std.proofs.Common.{◌≡◌, ◌+◌, ◌≤◌}
use Rattle.std.specs.Prelude.{vec_len, vec_capacity}
use Rattle.map_defs.specs.Rows.{links_of}
use Rattle.cell_edit.specs.Stars.{star_of}
use Rattle.cell_edit.specs.Writing.{Appends}
use Rattle.beta_edit.specs.Splitting.{IsSideEntry}
use Rattle.beta_edit.proofs.vertex.push_sides.Given as goal

abbrev pub invariant-loop-link : goal.invariant-loop-link
invariant-loop-link g l =
    Appends (links_of l.links.rows) (IsSideEntry (links_of l.links.rows) (star_of l.stars) l.link l.dart) l.initial.changes.items l.changes.items
    × (vec_capacity l.changes ≡ vec_capacity l.initial.changes) × (vec_len l.changes + 2 ≤ vec_len l.initial.changes + l.link)
