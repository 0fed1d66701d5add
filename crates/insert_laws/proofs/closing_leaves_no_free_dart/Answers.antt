use Rattle.std.proofs.Common.{IsTrue}
use Rattle.map_defs.specs.Rows.{IsLive}
use Rattle.insert_laws.proofs.ClosedFree.{closed_linked}
use Rattle.insert_laws.proofs.closing_leaves_no_free_dart.Goals as goal

pub returns-clause-told : goal.returns-clause-told
returns-clause-told c k i Live LiveAfter keys made star L N own w counted live numbers s born =
    closed_linked k i own (λ x. IsTrue (Live x)) keys made star L N w counted live numbers s (λ x. IsTrue (LiveAfter x)) born

pub returns-clause-rows : goal.returns-clause-rows
returns-clause-rows c k i rows after keys made star L N own w counted live numbers s born = closed_linked k i own (IsLive rows) keys made star L N w counted live numbers s (IsLive after) born
