use Rattle.journal_laws.proofs.EditDifference.{edit-difference}
use Rattle.journal_laws.proofs.edit_is_difference.Goals as goal

pub returns : goal.returns
returns c k n rows e sound fits order = edit-difference k n rows e sound fits order
