use Rattle.map_defs.specs.Kind.{alpha}
use Rattle.map_defs.specs.Cells.{InCell}
use Rattle.center_laws.proofs.Hung.{hanging_keeps}
use Rattle.center_laws.proofs.HangingSets.{face_hangs}
use Rattle.center_laws.proofs.centre_keeps_the_laws_of_alpha.Goals as goal

pub returns : goal.returns
returns c d star tip L N w hd fs ft two s = hanging_keeps 0 L w (InCell alpha L 2 d) (face_hangs L d hd) star tip fs ft two N s
