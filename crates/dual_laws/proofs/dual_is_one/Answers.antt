use Rattle.dual_laws.proofs.DualLaws.{dual_one}
use Rattle.dual_laws.proofs.dual_is_one.Goals as goal

pub returns : goal.returns
returns c = dual_one
