use Rattle.transport.specs.Pieces.{AreMerged}
use Rattle.transport.proofs.merging.merge_few.Given as goal

abbrev pub invariant-loop-place : goal.invariant-loop-place
invariant-loop-place g l =
    AreMerged (g.R.Rule.meaning l.rule) l.pool l.pieces l.place l.initial.cells.items l.cells.items
