use Rattle.cell_walk.proofs.Counting.{IsCounted}
use Rattle.cell_walk.proofs.whole_map.counts.Given as goal

abbrev pub invariant-loop-dim : goal.invariant-loop-dim
invariant-loop-dim g l = IsCounted g.K.Kind.kind l.links.rows l.dim l.counts.items
