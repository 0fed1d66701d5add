use Rattle.answer_laws.proofs.ProgramFound.{answer_found}
use Rattle.answer_laws.proofs.each_program_has_an_answer.Goals as goal

pub returns : goal.returns
returns c = λ hook words files. answer_found hook words files
