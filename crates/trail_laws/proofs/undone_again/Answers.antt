use Rattle.std.proofs.Common.{refl}
use Rattle.trail_laws.proofs.TrailFacts.{mark_within}
use Rattle.trail_laws.proofs.UndoneNames.{back-ahead}
use Rattle.trail_laws.proofs.Redoing.{forth-again}
use Rattle.trail_laws.proofs.undone_again.Goals as goal

pub returns-clause-last : goal.returns-clause-last
returns-clause-last c t name k o is = back-ahead t name k o is

pub returns-clause-steps : goal.returns-clause-steps
returns-clause-steps c t k = refl

pub returns-clause-trail : goal.returns-clause-trail
returns-clause-trail c t k = refl

pub returns-clause-content : goal.returns-clause-content
returns-clause-content c now t name k h o is = forth-again now t k h o (mark_within t name k o is)
