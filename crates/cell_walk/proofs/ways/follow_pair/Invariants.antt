use Rattle.std.proofs.Common.{◌-◌, length}
use Rattle.map_defs.specs.Rows.{links_of}
use Rattle.map_defs.specs.LinkWords.{two_links}
use Rattle.cell_walk.proofs.OnWays.{IsOnWay}
use Rattle.cell_walk.proofs.ways.follow_pair.Given as goal

abbrev pub invariant-loop-reached : goal.invariant-loop-reached
invariant-loop-reached g l =
    IsOnWay g.K.Kind.kind (links_of l.links.rows) (two_links l.first l.second) (two_links l.first l.second) l.fn.dart l.fn.found (two_links l.first l.second) (two_links l.first l.second) l.at l.found

abbrev pub decreases-loop-reached : goal.decreases-loop-reached
decreases-loop-reached g l = 18446744073709551616 - length l.found
