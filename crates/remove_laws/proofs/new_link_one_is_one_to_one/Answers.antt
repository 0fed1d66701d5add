use Rattle.remove_laws.proofs.Ends.{edge_back_one, contracted_back_one, vertex_back_one}
use Rattle.remove_laws.proofs.new_link_one_is_one_to_one.Goals as goal

pub returns-clause-removed_edge : goal.returns-clause-removed_edge
returns-clause-removed_edge c made d L w bound live = edge_back_one made d L bound live w

pub returns-clause-contracted_edge : goal.returns-clause-contracted_edge
returns-clause-contracted_edge c made d L w bound live = contracted_back_one made d L bound live w

pub returns-clause-removed_vertex : goal.returns-clause-removed_vertex
returns-clause-removed_vertex c made d L w bound live = vertex_back_one made d L bound live w
