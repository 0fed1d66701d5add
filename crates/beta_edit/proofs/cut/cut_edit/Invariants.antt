use Rattle.std.proofs.Common.{◌≡◌, ◌+◌, ◌*◌, ◌≤◌, length, take}
use Rattle.std.specs.Prelude.{vec_len, vec_capacity}
use Rattle.map_defs.specs.Rows.{links_of}
use Rattle.cell_edit.specs.Stars.{star_of}
use Rattle.cell_edit.proofs.CornerList.{AreCorners}
use Rattle.beta_edit.specs.Cutting.{IsOldTurnEntry, IsNewTurnEntry}
use Rattle.beta_edit.proofs.AddedRows.{HasGrown}
use Rattle.beta_edit.proofs.cut.cut_edit.Given as goal

abbrev pub invariant-loop-pair : goal.invariant-loop-pair
invariant-loop-pair g l =
    HasGrown (links_of l.links.rows) (IsOldTurnEntry (links_of l.links.rows) (star_of l.stars)) (IsNewTurnEntry (links_of l.links.rows) (star_of l.stars))
    l.pairs (l.stars.made + 1) (g.row.DIM + 1) l.pair-index l.place l.changes.items l.born
    × AreCorners (take l.pair-index l.pairs) (take l.place l.stars.keys)
    × (vec_len l.changes ≡ 2 * l.place) × (2 * length l.stars.keys ≤ vec_capacity l.changes)
