use Rattle.journal_laws.proofs.OneDifference.{difference-one}
use Rattle.journal_laws.proofs.difference_is_one.Goals as goal

pub returns : goal.returns
returns c a b s t p q = difference-one a b s t p q
