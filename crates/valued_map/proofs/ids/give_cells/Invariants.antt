use Rattle.std.proofs.Common.{◌≤◌, ◌+◌}
use Rattle.label_laws.specs.Changing.{AreGroupsGiven}
use Rattle.valued_map.specs.Placed.{placed_groups}
use Rattle.valued_map.proofs.ids.give_cells.Given as goal

abbrev pub invariant-loop-index : goal.invariant-loop-index
invariant-loop-index g l = AreGroupsGiven (placed_groups l.places l.cells) l.index l.fn.labels l.labels l.fn.pool l.pool × (l.fn.pool.spare ≤ l.pool.spare + l.index)
