use Rattle.std.proofs.Common.{arith}
use Rattle.map_kind.proofs.SingleLinks.{singles-skip, singles-push, singles-all}
use Rattle.map_kind.proofs.word.single_links.Goals as goal

pub loop-link-preserved-then-link-cell : goal.loop-link-preserved-then-link-cell
loop-link-preserved-then-link-cell c =
    singles-skip c.args.low c.loop-link.link c.args.dim c.args.cell c.loop-link.words.items c.if-link-cell.true c.loop-link.invariant

pub loop-link-preserved : goal.loop-link-preserved
loop-link-preserved c =
    rw (c.in_ok-push.ensures.items, c.one.ensures)
    (singles-push c.args.low c.loop-link.link c.args.dim c.args.cell c.loop-link.words.items (omega arith) (omega arith) c.if-link-cell.false c.loop-link.invariant)

pub returns : goal.returns
returns c = singles-all c.args.low c.loop-link.link c.args.dim c.args.cell c.loop-link.words.items (omega arith) c.loop-link.invariant
