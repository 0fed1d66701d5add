use Rattle.map_defs.specs.Kind.{beta}
use Rattle.map_defs.specs.Cells.{InCell}
use Rattle.map_defs.specs.Insertion.{BetaEdgeLeads}
use Rattle.map_defs.specs.Rows.{IsLive}
use Rattle.insert_laws.proofs.BetaEdgePairs.{edge_turning}
use Rattle.insert_laws.proofs.NewLinks.{split_links, cut_links}
use Rattle.insert_laws.proofs.ClosedLinks.{closed_links}
use Rattle.insert_laws.proofs.new_links_exist.Goals as goal

pub returns-clause-vertex : goal.returns-clause-vertex
returns-clause-vertex c d bound star L M w fresh first second new old kept low = split_links L w (InCell beta L 1 d) star fresh M first second new old kept bound low

pub returns-clause-edge : goal.returns-clause-edge
returns-clause-edge c d e bound star L M w apart can fresh into onward sides along kept low =
    cut_links L w (BetaEdgeLeads L d e) (edge_turning L w d e can apart).both star fresh M into onward sides along kept bound low

pub returns-clause-closing : goal.returns-clause-closing
returns-clause-closing c i rows keys made bound star L M high w counted live numbers new old beyond along around kept low =
    closed_links L w (IsLive rows) live made counted keys star M i high numbers
    (record { new = new; old = old; beyond = beyond; along = along; around = around; kept = kept }) bound low
