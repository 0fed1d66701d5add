use Rattle.std.proofs.Common.{take}
use Rattle.valued_map.specs.Changing.{AreAdded}
use Rattle.valued_map.specs.Undoing.{IsRevalued}
use Rattle.valued_map.proofs.restored_cells.add_revalued.Given as goal

abbrev pub invariant-loop-step : goal.invariant-loop-step
invariant-loop-step g l = AreAdded l.links.rows (IsRevalued (take l.step-index l.steps) l.dim) l.fn.darts.items l.darts.items
