use Rattle.total_laws.proofs.Running.{run-stays}
use Rattle.total_laws.proofs.runs_keep_totals.Goals as goal

pub returns : goal.returns
returns c hook s new lines replies i total after kept rule run keeps has has' =
    (run-stays hook i s lines replies new kept rule run keeps).1 total after has has'
