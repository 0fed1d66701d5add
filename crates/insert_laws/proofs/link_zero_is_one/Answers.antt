use Rattle.link_laws.proofs.InverseLinks.{turned_one}
use Rattle.insert_laws.proofs.link_zero_is_one.Goals as goal

pub returns : goal.returns
returns c = turned_one
