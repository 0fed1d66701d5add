use Rattle.map_defs.specs.Rows.{IsLive, links_of}
use Rattle.orient_half.proofs.LeastStarts.{odd-names}
use Rattle.orient_half.proofs.WholeLinks.{rows-whole}
use Rattle.orient_half.proofs.laws.first_odd_walk_starts_at_a_least_dart.Goals as goal

pub returns : goal.returns
returns c n rows d links sound closed first = odd-names n (IsLive rows) (links_of rows) (rows-whole n rows sound closed) d links first
