use Rattle.machine_laws.proofs.KnownRules.{empty-known, loaded-known, step-known, run-known}
use Rattle.machine_laws.proofs.runs_keep_known_rules.Goals as goal

pub returns-clause-first : goal.returns-clause-first
returns-clause-first c hook k n = empty-known hook k n

pub returns-clause-mesh : goal.returns-clause-mesh
returns-clause-mesh c hook k n text start loaded = loaded-known hook k n text start loaded

pub returns-clause-step : goal.returns-clause-step
returns-clause-step c hook s line reply new known step = step-known hook s known line reply new step

pub returns-clause-each : goal.returns-clause-each
returns-clause-each c hook s lines replies new known run = run-known hook s lines replies new known run
