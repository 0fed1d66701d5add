use Rattle.std.proofs.Common.{take}
use Rattle.cell_edit.proofs.CornerList.{AreCorners}
use Rattle.cell_edit.proofs.firsts.corners.Given as goal

abbrev pub invariant-loop-pair : goal.invariant-loop-pair
invariant-loop-pair l = AreCorners (take l.pair-index l.pairs) l.corners.items
