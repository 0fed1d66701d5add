use Rattle.back_laws.proofs.BetaDangleBack.{dangle_removable, dangle_back}
use Rattle.back_laws.proofs.removal_undoes_dangling_of_beta.Goals as goal

pub returns-clause-possible : goal.returns-clause-possible
returns-clause-possible c d x star tip L N w linked fs ft two s h = dangle_removable L w d linked star tip fs ft two N s x h

pub returns-clause-back : goal.returns-clause-back
returns-clause-back c d x star tip L N M w linked fs ft two s h r = dangle_back L w d linked star tip fs ft two N s x h M r
