use Rattle.std.proofs.Common.{◌≤◌, arith}
use Rattle.sewing.proofs.DistantPairs.{distant-push, distant-all}
use Rattle.cell_edit.proofs.corner.copying_links.Goals as goal

pub loop-link-preserved : goal.loop-link-preserved
loop-link-preserved c =
    rw c.in_ok-push.ensures.items
    (distant-push (λ j. 3 ≤ j) c.loop-link.link c.loop-link.copying.items (omega (arith, c.loop-link.auto.link)) c.loop-link.invariant)

pub returns : goal.returns
returns c = distant-all (λ j. 3 ≤ j) c.args.dim c.loop-link.link c.loop-link.copying.items (omega arith) c.loop-link.invariant
