use Rattle.map_defs.specs.Kind.{alpha}
use Rattle.map_defs.specs.Insertion.{AlphaEdgeDarts, AlphaEdgePairs}
use Rattle.insert_laws.proofs.InsertSquare.{insertion_keeps}
use Rattle.insert_laws.proofs.AlphaInsert.{alpha_edge_can}
use Rattle.insert_laws.proofs.edge_keeps_the_laws_of_alpha.Goals as goal

pub returns : goal.returns
returns c d e star L N w hd he good fresh s = insertion_keeps alpha 1 (AlphaEdgeDarts L d e) (AlphaEdgePairs L d e) star L w (alpha_edge_can L d e hd he good) fresh N s
