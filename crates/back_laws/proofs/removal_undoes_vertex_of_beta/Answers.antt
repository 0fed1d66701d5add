use Rattle.back_laws.proofs.VertexBack.{vertex_removable, vertex_back}
use Rattle.back_laws.proofs.removal_undoes_vertex_of_beta.Goals as goal

pub returns-clause-possible : goal.returns-clause-possible
returns-clause-possible c d x star L N w hd fresh s h = vertex_removable L w d hd star fresh N s x h

pub returns-clause-back : goal.returns-clause-back
returns-clause-back c d x star L N M w hd fresh s h r = vertex_back L w d hd star fresh N s x h M r
