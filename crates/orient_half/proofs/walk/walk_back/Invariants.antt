use Rattle.std.proofs.Common.{◌-◌, length}
use Rattle.map_defs.specs.Rows.{links_of}
use Rattle.orient_half.proofs.WaysBack.{HasWay}
use Rattle.orient_half.proofs.walk.walk_back.Given as goal

abbrev pub invariant-loop-first : goal.invariant-loop-first
invariant-loop-first g l =
    HasWay g.row.DIM (links_of l.links.rows) l.search.marks.items l.fn.dart l.here l.fn.walk.items l.walk.items

abbrev pub decreases-loop-first : goal.decreases-loop-first
decreases-loop-first g l = 9223372036854775808 - length l.walk.items
