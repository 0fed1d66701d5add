use Rattle.std.proofs.Common.{◌≡◌, ℕ, ◌≤◌, map, string_bytes, arith, ◌≢◌, Result, Err}
use Rattle.map_io.specs.declared.sink.PutFault.{PutFault}
use Rattle.map_io.specs.declared.sink.PutFault.TheVariants.{Failed, NoMemory}
use Rattle.machine_defs.specs.Outside.{Rose}
use Rattle.map_run.proofs.EndingFacts.{Ends-flushed, Ends-unflushed}
use Rattle.map_run.proofs.RunFacts.{then-rose}
use Rattle.map_run.proofs.program.serve.Goals as goal

rose-then : (a b c : ℕ) → b ≤ c → Rose a b → Rose a c
rose-then a b c later rose = omega arith

-- a flush has no other fault
failed : (result : Result (Unit {0}) PutFault) (fault : PutFault) → result ≡ Err fault → result ≢ Err NoMemory → result ≡ Err Failed
failed result Failed is none = is
failed result NoMemory is none = absurd (none is)

pub returns-in-Ok-clause-outcome : goal.returns-in-Ok-clause-outcome
returns-in-Ok-clause-outcome g c = λ files known.
    Ends-flushed (g.H.Hook.hook c.args.hook.now) (g.S.Sink.written c.args.out.now) (g.S.Sink.written c.answer-status.new.out) (g.S.Sink.written c.flush.new.self) (map string_bytes c.args.words.now) files
    (Rose (g.F.Shelf.faults c.args.shelf.now) (g.F.Shelf.faults c.answer-status.new.shelf)) (Rose (g.S.Sink.faults c.args.out.now) (g.S.Sink.faults c.answer-status.new.out)) (Rose (g.S.Sink.faults c.args.out.now) (g.S.Sink.faults c.flush.new.self)) c.answer-status.result
    (rose-then (g.S.Sink.faults c.args.out.now) (g.S.Sink.faults c.answer-status.new.out) (g.S.Sink.faults c.flush.new.self) c.flush.ensures.cause.later) (c.answer-status.ensures.outcome files known) c.flush.ensures.nothing

pub returns-in-Err-clause-outcome : goal.returns-in-Err-clause-outcome
returns-in-Err-clause-outcome g c = λ files known.
    rw c.unflushed.ensures
    (Ends-unflushed (g.H.Hook.hook c.args.hook.now) (g.S.Sink.written c.args.out.now) (g.S.Sink.written c.answer-status.new.out) (g.S.Sink.written c.flush.new.self) (map string_bytes c.args.words.now) files
    (Rose (g.F.Shelf.faults c.args.shelf.now) (g.F.Shelf.faults c.answer-status.new.shelf)) (Rose (g.S.Sink.faults c.args.out.now) (g.S.Sink.faults c.answer-status.new.out)) (Rose (g.S.Sink.faults c.args.out.now) (g.S.Sink.faults c.flush.new.self)) c.answer-status.result
    (then-rose (g.S.Sink.faults c.args.out.now) (g.S.Sink.faults c.answer-status.new.out) (g.S.Sink.faults c.flush.new.self) c.answer-status.ensures.later
    (c.flush.ensures.cause.rose (failed c.flush.result c.in-Err.field-0 c.in-Err.is c.flush.ensures.needs_no_memory)))
    (c.answer-status.ensures.outcome files known) c.flush.ensures.nothing)
