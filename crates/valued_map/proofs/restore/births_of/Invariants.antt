use Rattle.std.proofs.Common.{◌≡◌, take}
use Rattle.valued_map.specs.Undoing.{births_of}
use Rattle.valued_map.proofs.restore.births_of.Given as goal

abbrev pub invariant-loop-step : goal.invariant-loop-step
invariant-loop-step l = l.births ≡ births_of (take l.step-index l.steps)
