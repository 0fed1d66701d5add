use Rattle.std.proofs.Common.{arith}
use Rattle.transport.specs.Pieces.{has_id}
use Rattle.transport.proofs.Picking.{count_at_most}
use Rattle.transport.proofs.merging.count_before.Goals as goal

pub one_more_if-count-requires : goal.one_more_if-count-requires
one_more_if-count-requires c =
    let most = count_at_most (has_id c.args.pieces.now c.args.id) c.loop-place.place in
    let count = c.loop-place.invariant in
    let within = c.loop-place-test.true in
    omega (arith, c.requires.end, c.requires.few)
