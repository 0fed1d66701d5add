use Rattle.std.proofs.Common.{take, Contains}
use Rattle.valued_map.specs.Changing.{AreAdded}
use Rattle.valued_map.proofs.restored_cells.add_darts.Given as goal

abbrev pub invariant-loop-dart : goal.invariant-loop-dart
invariant-loop-dart g l = AreAdded l.links.rows (Contains (take l.dart-index l.ended)) l.fn.darts.items l.darts.items
