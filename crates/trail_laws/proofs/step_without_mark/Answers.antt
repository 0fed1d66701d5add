use Rattle.trail_laws.proofs.Noting.{told-unmarked, traced-unmarked}
use Rattle.trail_laws.proofs.step_without_mark.Goals as goal

pub returns-clause-told : goal.returns-clause-told
returns-clause-told c now next t h o none kept = told-unmarked now next t h o none kept

pub returns-clause-kept : goal.returns-clause-kept
returns-clause-kept c now next t h o none kept = traced-unmarked now next t h o none kept
