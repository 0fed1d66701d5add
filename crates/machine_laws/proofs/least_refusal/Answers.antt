use Rattle.machine_defs.specs.Machine.{Effect, checks}
use Rattle.machine_laws.proofs.Judging.{ordered, judged-fails, judged-least, judged-unchanged}
use Rattle.machine_laws.proofs.OneStep.{effect-refuses}
use Rattle.machine_laws.proofs.least_refusal.Goals as goal

pub returns-clause-holds : goal.returns-clause-holds
returns-clause-holds c = λ hook s line r new step. judged-fails s (Effect hook s line) r new (effect-refuses hook s line r new) (checks hook s line) step

pub returns-clause-least : goal.returns-clause-least
returns-clause-least c = λ hook s line r new step q fails. judged-least s (Effect hook s line) r new (effect-refuses hook s line r new) (checks hook s line) (ordered hook s line) step q fails

pub returns-clause-unchanged : goal.returns-clause-unchanged
returns-clause-unchanged c = λ hook s line r new step. judged-unchanged s (Effect hook s line) r new (effect-refuses hook s line r new) (checks hook s line) step
