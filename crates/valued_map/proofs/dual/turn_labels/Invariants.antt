use Rattle.label_laws.specs.Turning.{AreTurnedBelow}
use Rattle.valued_map.proofs.dual.turn_labels.Given as goal

abbrev pub invariant-loop-dim : goal.invariant-loop-dim
invariant-loop-dim g l = AreTurnedBelow g.row.DIM l.dim l.initial.labels l.labels
