use Rattle.std.proofs.Common.{ℕ, ◌<◌, length, slice_index}
use Rattle.map_defs.specs.Rows.{links_of}
use Rattle.map_defs.specs.Insertion.{IsJoining}
use Rattle.cell_edit.specs.Circles.{next_place}
use Rattle.cell_edit.proofs.path.is_closed.Given as goal

abbrev pub invariant-loop-place : goal.invariant-loop-place
invariant-loop-place g l = (p : ℕ) → p < l.place → IsJoining g.K.Kind.kind (links_of l.links.rows) (slice_index l.path p) (slice_index l.path (next_place (length l.path) p))
