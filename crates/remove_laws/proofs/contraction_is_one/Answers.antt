use Rattle.remove_laws.proofs.Unique.{contracted_one}
use Rattle.remove_laws.proofs.contraction_is_one.Goals as goal

pub returns : goal.returns
returns c k made i d L N M w bound live = contracted_one made d L N M bound live k i w
