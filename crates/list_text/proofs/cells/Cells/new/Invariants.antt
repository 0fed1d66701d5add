use Rattle.list_text.specs.Ranks.{AreLeast, lists_of}
use Rattle.list_text.proofs.cells.Cells.new.Given as goal

abbrev pub invariant-loop-dim : goal.invariant-loop-dim
invariant-loop-dim g l = AreLeast g.K.Kind.kind l.dim l.rows (lists_of l.least.items)
