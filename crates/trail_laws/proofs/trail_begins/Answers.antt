use Rattle.trail_laws.proofs.Noting.{told-begun, traced-begun}
use Rattle.trail_laws.proofs.trail_begins.Goals as goal

pub returns-clause-told : goal.returns-clause-told
returns-clause-told c now = told-begun now

pub returns-clause-kept : goal.returns-clause-kept
returns-clause-kept c now kept = traced-begun now kept
