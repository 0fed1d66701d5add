use Rattle.std.proofs.Common.{take}
use Rattle.valued_map.specs.Changing.{AreAdded}
use Rattle.valued_map.specs.Undoing.{IsValueChanged}
use Rattle.valued_map.proofs.restored_cells.add_changed.Given as goal

abbrev pub invariant-loop-change : goal.invariant-loop-change
invariant-loop-change g l = AreAdded l.links.rows (IsValueChanged (take l.change-index l.changes) l.dim) l.fn.darts.items l.darts.items
