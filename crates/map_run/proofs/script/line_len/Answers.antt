use Rattle.std.proofs.Common.{sym, ap, ◌∙◌, arith}
use lib.Count.{count_trailing_zeros}
use Rattle.map_run.proofs.FeedMarks.{goes_on, ends}
use Rattle.map_run.proofs.script.line_len.Goals as goal

pub returns-then-feeds-ne0 : goal.returns-then-feeds-ne0
returns-then-feeds-ne0 c =
    let feeds = c.line_feeds-feeds in
    let end = ends c.args.text.now c.loop-start.start 16 (omega arith) (omega arith) (omega (arith, feeds.ensures)) ∙ ap (count_trailing_zeros 64) (sym feeds.ensures) in
    omega (arith, end, c.loop-start.invariant.0)

pub loop-start-preserved : goal.loop-start-preserved
loop-start-preserved c =
    let on = goes_on c.args.text.now c.loop-start.start 16 (omega arith) (omega (arith, c.line_feeds-feeds.ensures)) in
    (omega (arith, on, c.loop-start.invariant.0), omega arith)
