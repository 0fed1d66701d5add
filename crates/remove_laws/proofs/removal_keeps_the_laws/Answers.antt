use Rattle.remove_laws.proofs.Removed.{removed_laws}
use Rattle.remove_laws.proofs.removal_keeps_the_laws.Goals as goal

pub returns : goal.returns
returns c = removed_laws
