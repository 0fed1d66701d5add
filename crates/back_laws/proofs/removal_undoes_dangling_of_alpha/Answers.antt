use Rattle.back_laws.proofs.DangleBack.{dangle_removable, dangle_back}
use Rattle.back_laws.proofs.removal_undoes_dangling_of_alpha.Goals as goal

pub returns-clause-possible : goal.returns-clause-possible
returns-clause-possible c d x star tip L N w hd fs ft two s h = dangle_removable L w d hd star tip fs ft two N s x h

pub returns-clause-back : goal.returns-clause-back
returns-clause-back c d x star tip L N M w hd fs ft two s h r = dangle_back L w d hd star tip fs ft two N s x h M r
