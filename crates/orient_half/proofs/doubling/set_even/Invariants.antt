use Rattle.std.proofs.Common.{◌+◌, length}
use Rattle.map_defs.specs.Rows.{links_of}
use Rattle.half_defs.specs.Halves.{even_dart}
use Rattle.orient_half.specs.Entries.{IsDoubleEntry, AreSetUpTo}
use Rattle.orient_half.proofs.doubling.set_even.Given as goal

abbrev pub invariant-loop-link : goal.invariant-loop-link
invariant-loop-link g l =
    AreSetUpTo g.row.DIM (length l.ranks + length l.ranks) (IsDoubleEntry (links_of l.links.rows) l.ranks) (even_dart l.rank) l.link l.builder.rows
