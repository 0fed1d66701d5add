use Rattle.machine_laws.proofs.Redone.{gives-back}
use Rattle.machine_laws.proofs.redo_gives_back.Goals as goal

pub returns-clause-accepted : goal.returns-clause-accepted
returns-clause-accepted c hook s mid new name reply undo redo = (gives-back hook s mid new name reply undo redo).0

pub returns-clause-same : goal.returns-clause-same
returns-clause-same c hook s mid new name reply undo redo = (gives-back hook s mid new name reply undo redo).1
