use Rattle.value_laws.proofs.Rules.{keeps_whole}
use Rattle.value_laws.proofs.rules_leave_whole_what_is_not_split.Goals as goal

pub returns : goal.returns
returns c = keeps_whole
