use Rattle.trail_laws.proofs.Reading.{past-long}
use Rattle.trail_laws.proofs.Naming.{all-kept, places-within, copies-there}
use Rattle.trail_laws.proofs.contents_are_kept.Goals as goal

pub returns-clause-kept : goal.returns-clause-kept
returns-clause-kept c now t h o = all-kept now t o h

pub returns-clause-long : goal.returns-clause-long
returns-clause-long c now t h o = past-long now t h o

pub returns-clause-places : goal.returns-clause-places
returns-clause-places c now t h o = places-within now t o h

pub returns-clause-copies : goal.returns-clause-copies
returns-clause-copies c now t h o = copies-there now t o h
