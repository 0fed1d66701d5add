use Rattle.answer_laws.proofs.RunFound.{run_found}
use Rattle.answer_laws.proofs.each_script_has_a_run.Goals as goal

pub returns : goal.returns
returns c = λ hook s lines kept traced. run_found hook s lines kept traced
