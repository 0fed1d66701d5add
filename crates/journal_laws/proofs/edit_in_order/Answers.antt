use Rattle.journal_laws.proofs.EditOrder.{fits-ordered, after-ordered}
use Rattle.journal_laws.proofs.edit_in_order.Goals as goal

pub returns-clause-fits : goal.returns-clause-fits
returns-clause-fits c k n rows e changes sound fits moved = fits-ordered k n rows e changes sound fits moved

pub returns-clause-after : goal.returns-clause-after
returns-clause-after c k n rows e changes sound fits moved = after-ordered k n rows e changes sound fits moved
