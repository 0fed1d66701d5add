use Rattle.std.proofs.Common.{arith}
use Rattle.map_kind.proofs.Around.{near-more, near-all}
use Rattle.map_kind.proofs.beta.add_words.Goals as goal

pub loop-near-preserved : goal.loop-near-preserved
loop-near-preserved c =
    rw (c.in_ok-push-2.ensures.items, c.in_ok-push.ensures.items, c.two.ensures, c.two-in-loop-near.ensures, c.inverse.ensures)
    (near-more c.args.words.now.items c.args.far c.loop-near.near c.loop-near.words.items (omega arith) c.loop-near.invariant)

pub returns : goal.returns
returns c = near-all c.args.words.now.items c.args.far c.loop-near.near c.loop-near.words.items (omega arith) c.loop-near.invariant
