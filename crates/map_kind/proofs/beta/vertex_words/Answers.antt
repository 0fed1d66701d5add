use Rattle.std.proofs.Common.{◌+◌, inl, inr, arith}
use Rattle.map_kind.proofs.Around.{below-none, below-more, below-all}
use Rattle.map_kind.proofs.beta.vertex_words.Goals as goal

pub loop-far-init : goal.loop-far-init
loop-far-init c = rw c.new-words.ensures.items (below-none, inr (omega arith))

pub loop-far-preserved : goal.loop-far-preserved
loop-far-preserved c =
    (below-more c.loop-far.far c.loop-far.words.items c.add_words.new.words.items c.loop-far.invariant.0 c.in_ok-add_words.ensures, inl (omega arith))

pub returns : goal.returns
returns c = below-all c.loop-far.far (c.args.dim + 1) c.loop-far.words.items (omega arith) c.loop-far.invariant.1 c.loop-far.invariant.0
