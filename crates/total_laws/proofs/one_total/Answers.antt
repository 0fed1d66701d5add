use Rattle.total_laws.proofs.Dimension.{one-total, listing-total}
use Rattle.total_laws.proofs.one_total.Goals as goal

pub returns-clause-one : goal.returns-clause-one
returns-clause-one c content i total other p q = one-total content i total other p q

pub returns-clause-listed : goal.returns-clause-listed
returns-clause-listed c content i values lists = listing-total content i values lists
