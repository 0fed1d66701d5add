use Rattle.map_defs.specs.Insertion.{InAlphaCorner}
use Rattle.center_laws.proofs.Hung.{hanging_keeps}
use Rattle.center_laws.proofs.HangingSets.{corner_hangs}
use Rattle.center_laws.proofs.dangling_keeps_the_laws_of_alpha.Goals as goal

pub returns : goal.returns
returns c d star tip L N w hd fs ft two s = hanging_keeps 1 L w (InAlphaCorner L d) (corner_hangs L d hd) star tip fs ft two N s
