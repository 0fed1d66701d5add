use Rattle.dual_laws.proofs.DualLaws.{dual_cells}
use Rattle.dual_laws.proofs.dual_has_the_same_cells.Goals as goal

pub returns : goal.returns
returns c k n rows N h = dual_cells n rows h k N
