use Rattle.map_defs.specs.Kind.{beta}
use Rattle.map_defs.specs.Cells.{InCell}
use Rattle.insert_laws.proofs.BetaVertex.{edge_set, split_keeps}
use Rattle.insert_laws.proofs.vertex_keeps_the_laws_of_beta.Goals as goal

pub returns : goal.returns
returns c d star L N w hd fresh s = split_keeps L w (InCell beta L 1 d) (edge_set L d hd) star fresh N s
