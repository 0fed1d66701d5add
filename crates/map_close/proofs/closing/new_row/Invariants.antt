use Rattle.std.proofs.Common.{ℕ, ◌≡◌, ◌+◌, ◌<◌, length, slice_index}
use Rattle.map_defs.specs.Rows.{links_of}
use Rattle.cell_edit.specs.Stars.{star_of}
use Rattle.map_close.specs.NewLinks.{IsNewLink}
use Rattle.map_close.proofs.closing.new_row.Given as goal

abbrev pub invariant-loop-at : goal.invariant-loop-at
invariant-loop-at g l =
    (length l.row ≡ g.row.DIM + 1)
    × ((t : ℕ) → t < l.at → IsNewLink g.K.Kind.kind l.link (links_of l.links.rows) (star_of l.stars) l.dart t (slice_index l.row t))
