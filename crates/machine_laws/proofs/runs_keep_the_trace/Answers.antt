use Rattle.std.proofs.Common.{subst, sym}
use Rattle.machine_laws.specs.Tracing.{AreTraced}
use Rattle.machine_laws.proofs.Traced.{first-traced}
use Rattle.machine_laws.proofs.Runs.{run-traced}
use Rattle.machine_laws.proofs.runs_keep_the_trace.Goals as goal

pub returns-clause-first : goal.returns-clause-first
returns-clause-first c k n = first-traced _

pub returns-clause-mesh : goal.returns-clause-mesh
returns-clause-mesh c k n text start loaded = subst AreTraced (sym loaded.begun) (first-traced _)

pub returns-clause-each : goal.returns-clause-each
returns-clause-each c hook s lines replies new kept traced run = run-traced hook s lines replies new kept traced run
