use Rattle.std.proofs.Common.{◌≡◌, take, length}
use Rattle.cell_walk.specs.Marks.{IsMarked}
use Rattle.cell_walk.specs.Sweeps.{AreWanted}
use Rattle.cell_walk.proofs.sweep.links_among.Given as goal

abbrev pub invariant-loop-word : goal.invariant-loop-word
invariant-loop-word l = (length l.among ≡ 9) × AreWanted (take l.word-index l.words) (IsMarked l.among)
