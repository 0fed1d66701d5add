use Rattle.machine_laws.proofs.OneStep.{step-reply, step-state}
use Rattle.machine_laws.proofs.one_step.Goals as goal

pub returns-clause-reply : goal.returns-clause-reply
returns-clause-reply c = λ hook s line one other new new' needs step step'. step-reply hook s line needs one other new new' step step'

pub returns-clause-state : goal.returns-clause-state
returns-clause-state c = λ hook s line one other new new' needs step step'. step-state hook s line needs one other new new' step step'
