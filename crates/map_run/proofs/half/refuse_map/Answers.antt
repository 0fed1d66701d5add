use Rattle.machine_defs.specs.Outside.{Rose}
use Rattle.map_run.proofs.AnswerFacts.{unwritten-line}
use Rattle.map_run.proofs.half.refuse_map.Goals as goal

pub returns-in-Ok-clause-refused : goal.returns-in-Ok-clause-refused
returns-in-Ok-clause-refused g c = rw c.in-Ok.ensures (rw c.as_slice.ensures.value at c.write_last.ensures.written)

pub returns-in-Err-clause-refused : goal.returns-in-Err-clause-refused
returns-in-Err-clause-refused g c = unwritten-line (g.S.Sink.written c.args.out.now) (Rose (g.S.Sink.faults c.args.out.now) (g.S.Sink.faults c.args.out.now)) _
