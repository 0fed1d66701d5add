use Rattle.std.proofs.Common.{take}
use Rattle.label_laws.specs.Changing.{AreTaken}
use Rattle.valued_map.specs.Undoing.{IsValueChanged}
use Rattle.valued_map.proofs.restore.take_changed.Given as goal

abbrev pub invariant-loop-change : goal.invariant-loop-change
invariant-loop-change g l = AreTaken (IsValueChanged (take l.change-index l.changes)) l.fn.labels l.labels l.fn.pool l.pool
