use Rattle.journal_laws.proofs.Chains.{steps-long, on-to, on-between, back-between, to-last, to-first}
use Rattle.journal_laws.proofs.steps_lead_back.Goals as goal

pub returns-clause-long : goal.returns-clause-long
returns-clause-long c cs ss are = steps-long cs ss are

pub returns-clause-last : goal.returns-clause-last
returns-clause-last c cs ss d follow are some = to-last cs ss d follow are some

pub returns-clause-first : goal.returns-clause-first
returns-clause-first c cs ss d follow are some = to-first cs ss d follow are some

pub returns-clause-at : goal.returns-clause-at
returns-clause-at c cs ss d j follow are h = on-to cs ss d j follow are h

pub returns-clause-on_between : goal.returns-clause-on_between
returns-clause-on_between c cs ss d i j follow are low h = on-between cs ss d i j follow are low h

pub returns-clause-back_between : goal.returns-clause-back_between
returns-clause-back_between c cs ss d i j follow are low h = back-between cs ss d i j follow are low h
