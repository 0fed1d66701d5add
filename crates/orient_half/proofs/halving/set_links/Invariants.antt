use Rattle.std.proofs.Common.{length}
use Rattle.map_defs.specs.Rows.{links_of}
use Rattle.orient_half.specs.Entries.{IsHalfEntry, AreSetUpTo}
use Rattle.orient_half.proofs.halving.set_links.Given as goal

abbrev pub invariant-loop-link : goal.invariant-loop-link
invariant-loop-link g l = AreSetUpTo g.row.DIM (length l.ranks) (IsHalfEntry (links_of l.links.rows) l.ranks) l.rank l.link l.builder.rows
