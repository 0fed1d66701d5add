use Rattle.answer_laws.proofs.RunFound.{step_found}
use Rattle.answer_laws.proofs.each_line_has_an_answer.Goals as goal

pub returns : goal.returns
returns c = λ hook s line kept needs. step_found hook s line kept needs
