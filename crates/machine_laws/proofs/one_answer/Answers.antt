use Rattle.machine_laws.proofs.Programs.{answer-one}
use Rattle.machine_laws.proofs.one_answer.Goals as goal

pub returns-clause-text : goal.returns-clause-text
returns-clause-text c = λ hook words files one other status status' a b. (answer-one hook words files one other status status' a b).0

pub returns-clause-status : goal.returns-clause-status
returns-clause-status c = λ hook words files one other status status' a b. (answer-one hook words files one other status status' a b).1
