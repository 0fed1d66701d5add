use Rattle.machine_laws.proofs.OneStep.{step-kept, step-traced}
use Rattle.machine_laws.proofs.steps_keep_the_laws.Goals as goal

pub returns-clause-laws : goal.returns-clause-laws
returns-clause-laws c hook s line reply new kept step = step-kept hook s kept line reply new step

pub returns-clause-trace : goal.returns-clause-trace
returns-clause-trace c hook s line reply new kept traced step = step-traced hook s kept traced line reply new step
