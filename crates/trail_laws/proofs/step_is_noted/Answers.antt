use Rattle.trail_laws.proofs.Noting.{told-noted, traced-noted}
use Rattle.trail_laws.proofs.step_is_noted.Goals as goal

pub returns-clause-told : goal.returns-clause-told
returns-clause-told c now next t s h o kept f is some = told-noted now next t s h o kept f is some

pub returns-clause-kept : goal.returns-clause-kept
returns-clause-kept c now next t s h o kept f is some = traced-noted now next t s h o kept f is some
