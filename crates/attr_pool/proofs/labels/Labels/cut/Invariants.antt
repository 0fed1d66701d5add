use Rattle.attr_pool.proofs.ColumnFacts.{AreCut}
use Rattle.attr_pool.proofs.labels.Labels.cut.Given as goal

abbrev pub invariant-loop-column : goal.invariant-loop-column
invariant-loop-column g l = AreCut l.initial.column-items l.column-items l.made l.column-index
