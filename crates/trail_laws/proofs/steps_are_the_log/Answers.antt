use Rattle.trail_laws.proofs.Naming.{mark-stands}
use Rattle.trail_laws.proofs.Returning.{differ-since}
use Rattle.trail_laws.proofs.steps_are_the_log.Goals as goal

pub returns : goal.returns
returns c now t name k mark h o is = differ-since now t name k h o (mark-stands now t o name k mark is) mark is
