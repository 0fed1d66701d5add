use Rattle.std.proofs.Common.{arith}
use Rattle.transport.specs.Pieces.{has_id}
use Rattle.transport.proofs.Picking.{count_at_most}
use Rattle.transport.proofs.merging.tally_of.Goals as goal

pub add-requires : goal.add-requires
add-requires c =
    let most = count_at_most (has_id c.args.pieces.now c.piece-item.result.id) c.loop-piece.piece-index in
    let count = c.loop-piece.invariant c.piece-item.result.id in
    omega arith
