use Rattle.label_laws.specs.Changing.{AreTaken, IsGroupedBelow}
use Rattle.valued_map.proofs.ids.clear_groups.Given as goal

abbrev pub invariant-loop-group : goal.invariant-loop-group
invariant-loop-group g l = AreTaken (IsGroupedBelow l.group-index l.groups) l.fn.labels l.labels l.fn.pool l.pool
