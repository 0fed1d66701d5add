use Rattle.journal_laws.proofs.Leading.{leads-back}
use Rattle.journal_laws.proofs.difference_leads_back.Goals as goal

pub returns : goal.returns
returns c a b s f is = leads-back a b s f is
