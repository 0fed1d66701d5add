use Rattle.journal_laws.proofs.OneDifference.{differences-one}
use Rattle.journal_laws.proofs.differences_are_one.Goals as goal

pub returns : goal.returns
returns c cs ss ts p q = differences-one cs ss ts p q
