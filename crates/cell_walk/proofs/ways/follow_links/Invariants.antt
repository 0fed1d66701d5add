use Rattle.std.proofs.Common.{◌-◌, ◌≤◌, length}
use Rattle.map_defs.specs.Rows.{links_of}
use Rattle.map_defs.specs.LinkWords.{one_link}
use Rattle.cell_walk.proofs.OnWays.{IsOnWay}
use Rattle.cell_walk.proofs.ways.follow_links.Given as goal

abbrev pub invariant-loop-reached : goal.invariant-loop-reached
invariant-loop-reached g l =
    (l.next ≤ g.row.DIM) × (l.after ≤ g.row.DIM)
    × IsOnWay g.K.Kind.kind (links_of l.links.rows) (one_link l.fn.one) (one_link l.fn.other) l.fn.dart l.fn.found (one_link l.next) (one_link l.after) l.at l.found

abbrev pub decreases-loop-reached : goal.decreases-loop-reached
decreases-loop-reached g l = 18446744073709551616 - length l.found
