use Rattle.std.proofs.Common.{◌≡◌, ◌+◌, ◌≤◌}
use Rattle.std.specs.Prelude.{vec_len, vec_capacity}
use Rattle.map_defs.specs.Rows.{links_of}
use Rattle.cell_edit.specs.Writing.{Appends}
use Rattle.cell_edit.specs.Bridging.{IsEndingEntry}
use Rattle.cell_edit.proofs.ending.push_links.Given as goal

abbrev pub invariant-loop-link : goal.invariant-loop-link
invariant-loop-link g l =
    Appends (links_of l.links.rows) (IsEndingEntry (links_of l.links.rows) l.link l.dart) l.initial.changes.items l.changes.items
    × (vec_capacity l.changes ≡ vec_capacity l.initial.changes) × (vec_len l.changes ≤ vec_len l.initial.changes + l.link)
