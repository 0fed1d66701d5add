use Rattle.std.proofs.Common.{◌-◌, Contains}
use Rattle.map_defs.specs.Rows.{links_of}
use Rattle.cell_walk.proofs.Walks.{IsWalked}
use Rattle.cell_walk.proofs.orbits.spread.Given as goal

abbrev pub invariant-loop-next : goal.invariant-loop-next
invariant-loop-next g l = IsWalked (links_of l.links.rows) (Contains l.words) l.fn.dart l.fn.found l.next l.found

abbrev pub decreases-loop-next : goal.decreases-loop-next
decreases-loop-next g l = 18446744073709551616 - l.next
