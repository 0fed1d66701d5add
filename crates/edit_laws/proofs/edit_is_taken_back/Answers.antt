use Rattle.edit_laws.proofs.EditBack.{before-led}
use Rattle.edit_laws.proofs.edit_is_taken_back.Goals as goal

pub returns : goal.returns
returns c k n edit old new led = before-led k n edit old new led
