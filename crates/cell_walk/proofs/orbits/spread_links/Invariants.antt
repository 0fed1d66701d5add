use Rattle.std.proofs.Common.{◌-◌, Contains}
use Rattle.map_defs.specs.Rows.{links_of}
use Rattle.cell_walk.proofs.Walks.{IsWalked}
use Rattle.cell_walk.proofs.orbits.spread_links.Given as goal

abbrev pub invariant-loop-place : goal.invariant-loop-place
invariant-loop-place g l = IsWalked (links_of l.links.rows) (Contains l.words) l.fn.dart l.fn.found l.place l.found

abbrev pub decreases-loop-place : goal.decreases-loop-place
decreases-loop-place g l = 18446744073709551616 - l.place
