use Rattle.std.proofs.Common.{Contains, lit<, arith}
use Rattle.label_laws.proofs.Loops.{taken-dims-begun, taken-dims}
use Rattle.valued_map.proofs.ids.end_ids.Goals as goal

pub take_ids-requires : goal.take_ids-requires
take_ids-requires g c =
    (lit< tt, (omega arith, λ d here. omega (arith, c.requires.darts d here, c.loop-dim.invariant.made)))

pub loop-dim-init : goal.loop-dim-init
loop-dim-init g c = taken-dims-begun (Contains c.args.darts.now) c.args.labels.now c.args.pool.now

pub loop-dim-preserved : goal.loop-dim-preserved
loop-dim-preserved g c =
    taken-dims (Contains c.args.darts.now) c.loop-dim.dim c.args.labels.now c.loop-dim.labels c.take_ids.new.labels c.args.pool.now c.loop-dim.pool c.take_ids.new.pool
    c.loop-dim.invariant c.take_ids.ensures
