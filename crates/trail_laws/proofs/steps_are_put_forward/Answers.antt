use Rattle.trail_laws.proofs.TrailFacts.{last-ahead}
use Rattle.trail_laws.proofs.Onward.{onward-kept, onward-follows, onward-differ}
use Rattle.trail_laws.proofs.steps_are_put_forward.Goals as goal

pub returns-clause-kept : goal.returns-clause-kept
returns-clause-kept c now t name others last j h o is small = onward-kept now t last h o (last-ahead t others last o is.there) j now small

pub returns-clause-follows : goal.returns-clause-follows
returns-clause-follows c now t name others last j h o is inside = onward-follows now t last h o (last-ahead t others last o is.there) j inside

pub returns-clause-differ : goal.returns-clause-differ
returns-clause-differ c now t name others last j e h o is inside = onward-differ now t last h o (last-ahead t others last o is.there) j e inside
