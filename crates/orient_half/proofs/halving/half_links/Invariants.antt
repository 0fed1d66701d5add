use Rattle.std.proofs.Common.{length}
use Rattle.map_defs.specs.Rows.{links_of}
use Rattle.orient_half.specs.Entries.{IsHalfEntry, AreSetUpTo}
use Rattle.orient_half.proofs.halving.half_links.Given as goal

abbrev pub invariant-loop-rank : goal.invariant-loop-rank
invariant-loop-rank g l = AreSetUpTo g.row.DIM (length l.ranks) (IsHalfEntry (links_of l.links.rows) l.ranks) l.rank 0 l.builder.rows
