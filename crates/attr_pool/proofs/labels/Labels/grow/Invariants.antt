use Rattle.attr_pool.proofs.ColumnFacts.{AreGrown}
use Rattle.attr_pool.proofs.labels.Labels.grow.Given as goal

abbrev pub invariant-loop-column : goal.invariant-loop-column
invariant-loop-column g l = AreGrown l.initial.column-items l.column-items l.made l.column-index
