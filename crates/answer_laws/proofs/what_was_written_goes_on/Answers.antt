use Rattle.answer_laws.proofs.ProgramFound.{whole_found}
use Rattle.answer_laws.proofs.what_was_written_goes_on.Goals as goal

pub returns : goal.returns
returns c = λ hook words files front starts. whole_found hook words files front starts
