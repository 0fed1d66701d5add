use Rattle.std.proofs.Common.{IsTrue}
use Rattle.map_defs.specs.Rows.{IsLive}
use Rattle.insert_laws.proofs.ClosedFree.{closed_laws}
use Rattle.insert_laws.proofs.closing_keeps_the_laws.Goals as goal

pub returns-clause-told : goal.returns-clause-told
returns-clause-told c k i Live keys made star L N own w counted live numbers s = closed_laws k i own (λ x. IsTrue (Live x)) keys made star L N w counted live numbers s

pub returns-clause-rows : goal.returns-clause-rows
returns-clause-rows c k i rows keys made star L N own w counted live numbers s = closed_laws k i own (IsLive rows) keys made star L N w counted live numbers s
