use Rattle.link_laws.proofs.SewnBack.{sewn_linked, unsewing_undoes}
use Rattle.link_laws.proofs.unsewing_undoes_sewing.Goals as goal

pub returns-clause-linked : goal.returns-clause-linked
returns-clause-linked c = sewn_linked

pub returns-clause-back : goal.returns-clause-back
returns-clause-back c k i d e L N M w hd he can s u = unsewing_undoes k i d e L N w hd he can s M u
