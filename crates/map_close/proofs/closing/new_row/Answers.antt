use Rattle.std.proofs.Common.{arith}
use Rattle.map_defs.specs.Rows.{links_of}
use Rattle.cell_edit.specs.Stars.{star_of}
use Rattle.map_close.proofs.ClosingRows.{new-put}
use Rattle.map_close.proofs.closing.new_row.Goals as goal

pub loop-at-preserved : goal.loop-at-preserved
loop-at-preserved g c =
    rw c.set.ensures
    (new-put g.K.Kind.kind g.row.DIM c.args.link (links_of c.args.links.now.rows) (star_of c.args.stars.now) c.args.dart c.loop-at.row c.loop-at.at c.new_link.result
    (omega (arith, c.loop-at-test.true, c.dimension-at-end.ensures.dimension)) c.loop-at.invariant.0 c.loop-at.invariant.1 c.new_link.ensures)
