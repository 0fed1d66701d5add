use Rattle.dual_laws.proofs.DualLaws.{dual_laws}
use Rattle.dual_laws.proofs.dual_keeps_the_laws.Goals as goal

pub returns : goal.returns
returns c k n rows N h = dual_laws n rows h k N
