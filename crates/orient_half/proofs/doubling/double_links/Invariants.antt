use Rattle.std.proofs.Common.{◌+◌, length}
use Rattle.map_defs.specs.Rows.{links_of}
use Rattle.half_defs.specs.Halves.{odd_dart}
use Rattle.orient_half.specs.Entries.{IsDoubleEntry, AreSetUpTo}
use Rattle.orient_half.proofs.doubling.double_links.Given as goal

abbrev pub invariant-loop-rank : goal.invariant-loop-rank
invariant-loop-rank g l =
    AreSetUpTo g.row.DIM (length l.ranks + length l.ranks) (IsDoubleEntry (links_of l.links.rows) l.ranks) (odd_dart l.rank) 0 l.builder.rows
