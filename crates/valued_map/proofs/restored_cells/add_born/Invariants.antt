use Rattle.std.proofs.Common.{◌≤◌, ◌<◌}
use Rattle.valued_map.specs.Changing.{AreAdded}
use Rattle.valued_map.proofs.restored_cells.add_born.Given as goal

abbrev pub invariant-loop-number : goal.invariant-loop-number
invariant-loop-number g l = AreAdded l.links.rows (λ x. (l.first ≤ x) × (x < l.number)) l.fn.darts.items l.darts.items
