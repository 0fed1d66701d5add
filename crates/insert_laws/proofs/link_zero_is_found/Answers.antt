use Rattle.insert_laws.proofs.LinkZero.{link_zero_found}
use Rattle.insert_laws.proofs.link_zero_is_found.Goals as goal

pub returns : goal.returns
returns c = link_zero_found
