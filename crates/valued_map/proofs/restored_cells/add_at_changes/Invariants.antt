use Rattle.std.proofs.Common.{take, Contains}
use Rattle.valued_map.specs.Changing.{AreAdded}
use Rattle.map_defs.specs.Edits.{Change}
use Rattle.valued_map.specs.Undoing.{IsNearChange}
use Rattle.valued_map.proofs.restored_cells.add_at_changes.Given as goal

abbrev pub invariant-loop-change : goal.invariant-loop-change
invariant-loop-change g l = AreAdded l.links.rows (λ x. (c : Change) × Contains (take l.change-index l.changes) c × IsNearChange (Contains l.words) l.links.rows c x) l.fn.darts.items l.darts.items
