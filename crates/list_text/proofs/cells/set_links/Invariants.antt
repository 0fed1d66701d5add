use Rattle.std.proofs.Common.{◌-◌}
use Rattle.list_text.specs.Ranks.{AreSetUpTo}
use Rattle.list_text.proofs.cells.set_links.Given as goal

abbrev pub invariant-loop-link : goal.invariant-loop-link
invariant-loop-link g l = AreSetUpTo g.row.DIM l.table (l.dart - 1) l.link l.builder.rows
