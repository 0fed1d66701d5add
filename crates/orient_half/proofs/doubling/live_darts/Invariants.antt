use Rattle.orient_half.specs.LiveDarts.{AreLiveBelow}
use Rattle.orient_half.proofs.doubling.live_darts.Given as goal

abbrev pub invariant-loop-number : goal.invariant-loop-number
invariant-loop-number g l = AreLiveBelow l.links.rows l.number l.darts.items
