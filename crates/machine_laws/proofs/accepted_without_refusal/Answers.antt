use Rattle.machine_defs.specs.Machine.{Effect, checks}
use Rattle.machine_laws.proofs.Judging.{ordered, judged-accepted}
use Rattle.machine_laws.proofs.accepted_without_refusal.Goals as goal

pub returns : goal.returns
returns c = λ hook s line reply new step no_refusal q fails. judged-accepted s (Effect hook s line) reply new (checks hook s line) (ordered hook s line) no_refusal step q fails
