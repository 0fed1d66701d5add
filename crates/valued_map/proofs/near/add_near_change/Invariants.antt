use Rattle.std.proofs.Common.{take, Contains}
use Rattle.valued_map.specs.Changing.{AreAdded}
use Rattle.valued_map.specs.Undoing.{IsNearChange}
use Rattle.valued_map.proofs.near.add_near_change.Given as goal

abbrev pub invariant-loop-word : goal.invariant-loop-word
invariant-loop-word g l = AreAdded l.links.rows (IsNearChange (Contains (take l.word-index l.words)) l.links.rows l.change) l.fn.darts.items l.darts.items
