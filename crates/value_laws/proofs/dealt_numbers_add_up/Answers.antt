use Rattle.value_laws.proofs.Rules.{quotient_and_rest, rest_below}
use Rattle.value_laws.proofs.Dealing.{parts_add_up}
use Rattle.value_laws.proofs.dealt_numbers_add_up.Goals as goal

pub returns-clause-quotient : goal.returns-clause-quotient
returns-clause-quotient c = quotient_and_rest

pub returns-clause-rest : goal.returns-clause-rest
returns-clause-rest c = rest_below

pub returns-clause-parts : goal.returns-clause-parts
returns-clause-parts c = parts_add_up
