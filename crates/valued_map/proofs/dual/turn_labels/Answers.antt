use Rattle.std.proofs.Common.{arith}
use Rattle.label_laws.proofs.TurnedBelow.{turned-next}
use Rattle.valued_map.proofs.dual.turn_labels.Goals as goal

pub loop-dim-preserved : goal.loop-dim-preserved
loop-dim-preserved g c =
    let low = c.loop-dim-test.true in
    turned-next g.row.DIM c.loop-dim.dim c.args.labels.now c.loop-dim.labels c.swap.new.self (omega (arith, low)) (omega (arith, low))
    c.loop-dim.invariant c.swap.ensures.made c.swap.ensures.ids c.swap.ensures.places
