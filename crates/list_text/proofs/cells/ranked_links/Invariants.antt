use Rattle.list_text.specs.Ranks.{AreSetUpTo}
use Rattle.list_text.proofs.cells.ranked_links.Given as goal

abbrev pub invariant-loop-place : goal.invariant-loop-place
invariant-loop-place g l = AreSetUpTo g.row.DIM l.rows l.place 0 l.builder.rows
