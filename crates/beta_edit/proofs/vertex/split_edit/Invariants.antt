use Rattle.std.proofs.Common.{◌+◌, ◌*◌, ◌≤◌, length}
use Rattle.std.specs.Prelude.{vec_len, vec_capacity}
use Rattle.map_defs.specs.Rows.{links_of}
use Rattle.cell_edit.specs.Stars.{star_of}
use Rattle.beta_edit.specs.Splitting.{IsOldSplitEntry, IsNewSplitEntry}
use Rattle.beta_edit.proofs.AddedRows.{HasGrown}
use Rattle.beta_edit.proofs.vertex.split_edit.Given as goal

abbrev pub invariant-loop-place : goal.invariant-loop-place
invariant-loop-place g l =
    HasGrown (links_of l.links.rows) (IsOldSplitEntry (links_of l.links.rows) (star_of l.stars) (g.row.DIM + 1)) (IsNewSplitEntry (links_of l.links.rows) (star_of l.stars))
    l.stars.keys (l.stars.made + 1) (g.row.DIM + 1) l.place l.place l.changes.items l.born
    × (vec_len l.changes ≤ l.place * (g.row.DIM + 1)) × (length l.stars.keys * (g.row.DIM + 1) ≤ vec_capacity l.changes)
