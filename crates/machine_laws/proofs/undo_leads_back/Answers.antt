use Rattle.machine_laws.proofs.Traced.{leads-back, leads-forward}
use Rattle.machine_laws.proofs.Logs.{undone-is}
use Rattle.machine_laws.proofs.undo_leads_back.Goals as goal

pub returns-clause-back : goal.returns-clause-back
returns-clause-back c s name k mark steps kept traced is are = leads-back s kept traced name k mark is steps are

pub returns-clause-forward : goal.returns-clause-forward
returns-clause-forward c s name k mark steps kept traced is are = leads-forward s kept traced name k mark is steps are

pub returns-clause-undone : goal.returns-clause-undone
returns-clause-undone c hook s name steps reply same new kept traced log undo = undone-is hook s name steps reply same new kept traced log undo
