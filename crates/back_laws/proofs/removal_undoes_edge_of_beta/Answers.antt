use Rattle.back_laws.proofs.EdgeBack.{edge_removable, edge_back}
use Rattle.back_laws.proofs.removal_undoes_edge_of_beta.Goals as goal

pub returns-clause-possible : goal.returns-clause-possible
returns-clause-possible c d e x star L N w apart can fresh s h = edge_removable L w d e apart can star fresh N s x h

pub returns-clause-back : goal.returns-clause-back
returns-clause-back c d e x star L N M w apart can fresh s h r = edge_back L w d e apart can star fresh N s x h M r
