use Rattle.machine_laws.proofs.Programs.{front-one}
use Rattle.machine_laws.proofs.one_front.Goals as goal

pub returns : goal.returns
returns c = λ hook words files front text status starts answers. front-one hook words files front text status starts answers
