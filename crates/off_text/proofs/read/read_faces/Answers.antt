use Rattle.std.proofs.lemmas.Result.{err_from_is_err_and}
use Rattle.map_defs.specs.Off.{many, line_read, face}
use Rattle.off_text.specs.Views.{cursor_view}
use Rattle.off_text.proofs.Counted.{goes_on_pushed, ends_pushed}
use Rattle.off_text.proofs.read.read_faces.Goals as goal

pub returns-in_err-left : goal.returns-in_err-left
returns-in_err-left c =
    let p = err_from_is_err_and c.from_residual.result c.from_residual.ensures.1 in
    rw (p.1, p.2)
    (ends_pushed (line_read (face c.args.counts.points)) c.in_err-left.field-0.0 c.loop.faces c.args.counts.faces c.loop.counter (cursor_view c.loop.left)
    (many (line_read (face c.args.counts.points)) c.args.counts.faces (cursor_view c.args.cursor)) c.loop-test.true c.in_err-left.ensures c.loop.invariant)

pub loop-preserved : goal.loop-preserved
loop-preserved c =
    goes_on_pushed (line_read (face c.args.counts.points)) c.loop.faces c.push_face.new.faces c.args.counts.faces c.loop.counter (cursor_view c.loop.left) _
    (many (line_read (face c.args.counts.points)) c.args.counts.faces (cursor_view c.args.cursor)) c.loop-test.true c.in_ok-left.ensures c.loop.invariant
