use Rattle.std.proofs.Common.{take, [], Contains}
use Rattle.valued_map.specs.Changing.{AreAdded}
use Rattle.valued_map.specs.Ways.{IsNearStep}
use Rattle.valued_map.proofs.restored_cells.stepped_darts.Given as goal

abbrev pub invariant-loop-step : goal.invariant-loop-step
invariant-loop-step g l = AreAdded l.links.rows (IsNearStep l.way (Contains l.words) l.links.rows (take l.step-index l.steps)) [] l.darts.items
