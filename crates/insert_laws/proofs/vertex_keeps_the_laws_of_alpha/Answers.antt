use Rattle.map_defs.specs.Kind.{alpha}
use Rattle.map_defs.specs.Cells.{InCell}
use Rattle.map_defs.specs.Insertion.{NoPairs}
use Rattle.insert_laws.proofs.InsertSquare.{insertion_keeps}
use Rattle.insert_laws.proofs.AlphaInsert.{alpha_vertex_can}
use Rattle.insert_laws.proofs.vertex_keeps_the_laws_of_alpha.Goals as goal

pub returns : goal.returns
returns c d star L N w hd fresh s = insertion_keeps alpha 0 (InCell alpha L 1 d) NoPairs star L w (alpha_vertex_can L d hd) fresh N s
