use Rattle.std.proofs.Common.{◌-◌, Contains}
use Rattle.cell_walk.proofs.QueuedDarts.{IsSpreading}
use Rattle.cell_walk.proofs.spread.mark_spread.Given as goal

abbrev pub invariant-loop-place : goal.invariant-loop-place
invariant-loop-place g l = IsSpreading l.links.rows (Contains l.words) l.fn.dart l.fn.marks l.place l.marks l.queue.items

abbrev pub decreases-loop-place : goal.decreases-loop-place
decreases-loop-place g l = 18446744073709551616 - l.place
