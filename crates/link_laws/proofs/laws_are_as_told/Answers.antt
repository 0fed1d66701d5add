use Rattle.link_laws.proofs.Told.{laws_of_told, told_of_laws}
use Rattle.link_laws.proofs.laws_are_as_told.Goals as goal

pub returns : goal.returns
returns c k L = (laws_of_told k L, told_of_laws k L)
