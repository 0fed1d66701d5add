use Rattle.std.proofs.Common.{◌≤◌, ◌+◌}
use Rattle.label_laws.specs.Changing.{AreGroupsGiven}
use Rattle.valued_map.proofs.ids.give_groups.Given as goal

abbrev pub invariant-loop-group : goal.invariant-loop-group
invariant-loop-group g l = AreGroupsGiven l.groups l.group-index l.fn.labels l.labels l.fn.pool l.pool × (l.fn.pool.spare ≤ l.pool.spare + l.group-index)
