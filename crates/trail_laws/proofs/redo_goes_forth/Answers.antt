use Rattle.trail_laws.proofs.TrailFacts.{last-ahead, ordered-forth}
use Rattle.trail_laws.proofs.Redoing.{told-forth, traced-forth}
use Rattle.trail_laws.proofs.redo_goes_forth.Goals as goal

pub returns-clause-told : goal.returns-clause-told
returns-clause-told c now t name others last h o is = told-forth now t others last h o (last-ahead t others last o is.there)

pub returns-clause-kept : goal.returns-clause-kept
returns-clause-kept c now t name others last h o is = traced-forth now t others last h o (last-ahead t others last o is.there)

pub returns-clause-ordered : goal.returns-clause-ordered
returns-clause-ordered c t name others last o is = ordered-forth t others last o is.there
