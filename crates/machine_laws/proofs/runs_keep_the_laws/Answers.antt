use Rattle.machine_laws.proofs.Begun.{empty-kept}
use Rattle.machine_laws.proofs.Programs.{loaded-kept}
use Rattle.machine_laws.proofs.Runs.{run-kept}
use Rattle.machine_laws.proofs.runs_keep_the_laws.Goals as goal

pub returns-clause-first : goal.returns-clause-first
returns-clause-first c k n flat = empty-kept k n flat

pub returns-clause-each : goal.returns-clause-each
returns-clause-each c hook s lines replies new kept run = run-kept hook s lines replies new kept run

pub returns-clause-mesh : goal.returns-clause-mesh
returns-clause-mesh c k n text start flat loaded = loaded-kept k n text start flat loaded
