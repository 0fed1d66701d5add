use Rattle.trail_laws.proofs.Marking.{told-marked, traced-marked}
use Rattle.trail_laws.proofs.mark_is_set.Goals as goal

pub returns-clause-told : goal.returns-clause-told
returns-clause-told c now t name h o = told-marked now t name h o

pub returns-clause-kept : goal.returns-clause-kept
returns-clause-kept c now t name h o = traced-marked now t name h o
