use Rattle.map_defs.specs.Kind.{beta}
use Rattle.map_defs.specs.Cells.{InCell}
use Rattle.map_defs.specs.Insertion.{BetaEdgeLeads}
use Rattle.insert_laws.proofs.BetaEdgePairs.{edge_turning}
use Rattle.map_defs.specs.Rows.{IsLive}
use Rattle.insert_laws.proofs.OneToOne.{split_one, cut_one}
use Rattle.insert_laws.proofs.ClosedOneToOne.{around_link_one, along_link_one}
use Rattle.insert_laws.proofs.new_link_one_is_one_to_one.Goals as goal

pub returns-clause-vertex : goal.returns-clause-vertex
returns-clause-vertex c d star L N w fresh first second kept = split_one L w (InCell beta L 1 d) star fresh (N 1) first second kept

pub returns-clause-edge : goal.returns-clause-edge
returns-clause-edge c d e star L N w apart can fresh into onward kept = cut_one L w (BetaEdgeLeads L d e) (edge_turning L w d e can apart).both star fresh (N 1) into onward kept

pub returns-clause-closing : goal.returns-clause-closing
returns-clause-closing c rows keys made star L N w counted live numbers around kept = around_link_one L w (IsLive rows) live made counted keys star numbers (N 1) around kept

pub returns-clause-closing_above : goal.returns-clause-closing_above
returns-clause-closing_above c i rows keys made star L N high w counted live numbers along kept = along_link_one L w (IsLive rows) live made counted i high keys star numbers (N 1) along kept
