use Rattle.map_defs.specs.Insertion.{BetaEdgeLeads}
use Rattle.insert_laws.proofs.BetaEdgeLaws.{cut_keeps}
use Rattle.insert_laws.proofs.BetaEdgePairs.{edge_turning}
use Rattle.insert_laws.proofs.edge_keeps_the_laws_of_beta.Goals as goal

pub returns : goal.returns
returns c d e star L N w apart can fresh s = cut_keeps L w (BetaEdgeLeads L d e) (edge_turning L w d e can apart) star fresh N s
