use Rattle.trail_laws.proofs.TrailFacts.{mark_within}
use Rattle.trail_laws.proofs.Between.{between-kept, between-there, between-follows, between-differ, between-led, between-back}
use Rattle.trail_laws.proofs.steps_are_taken_back.Goals as goal

pub returns-clause-kept : goal.returns-clause-kept
returns-clause-kept c now t name k j h o is small = between-kept now t k h o (mark_within t name k o is) j now small

pub returns-clause-there : goal.returns-clause-there
returns-clause-there c now t name k j h o is small = between-there now t k h o (mark_within t name k o is) j now small

pub returns-clause-follows : goal.returns-clause-follows
returns-clause-follows c now t name k j h o is inside = between-follows now t k h o (mark_within t name k o is) j inside

pub returns-clause-differ : goal.returns-clause-differ
returns-clause-differ c now t name k j e h o is inside = between-differ now t k h o (mark_within t name k o is) j e inside

pub returns-clause-led : goal.returns-clause-led
returns-clause-led c now t name k j e h o is inside = between-led now t k h o (mark_within t name k o is) j e inside

pub returns-clause-back : goal.returns-clause-back
returns-clause-back c now t name k j e h o is inside = between-back now t k h o (mark_within t name k o is) j e inside
