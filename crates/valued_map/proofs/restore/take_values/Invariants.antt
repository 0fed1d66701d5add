use Rattle.std.proofs.Common.{take}
use Rattle.label_laws.specs.Changing.{AreTaken}
use Rattle.valued_map.specs.Undoing.{IsRevalued}
use Rattle.valued_map.proofs.restore.take_values.Given as goal

abbrev pub invariant-loop-step : goal.invariant-loop-step
invariant-loop-step g l = AreTaken (IsRevalued (take l.step-index l.steps)) l.fn.labels l.labels l.fn.pool l.pool
