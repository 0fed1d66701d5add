use Rattle.remove_laws.proofs.Removed.{contracted_laws}
use Rattle.remove_laws.proofs.contraction_keeps_the_laws.Goals as goal

pub returns : goal.returns
returns c = contracted_laws
