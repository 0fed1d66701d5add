use Rattle.list_text.proofs.TextAgain.{written-again}
use Rattle.list_text.proofs.again.written_again.Goals as goal

pub returns : goal.returns
returns c = written-again
