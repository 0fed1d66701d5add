use Rattle.remove_laws.proofs.Unique.{removed_one}
use Rattle.remove_laws.proofs.removal_is_one.Goals as goal

pub returns : goal.returns
returns c k made i d L N M w bound live = removed_one made d L N M bound live k i w
