use Rattle.journal_laws.proofs.RowsOn.{difference-fits}
use Rattle.journal_laws.proofs.Leading.{leads-on, difference-led}
use Rattle.journal_laws.proofs.difference_leads_on.Goals as goal

pub returns-clause-next : goal.returns-clause-next
returns-clause-next c a b s f is = leads-on a b s f is

pub returns-clause-fits : goal.returns-clause-fits
returns-clause-fits c a b s f is = difference-fits a b s f is

pub returns-clause-led : goal.returns-clause-led
returns-clause-led c a b s f is = difference-led a b s f is
