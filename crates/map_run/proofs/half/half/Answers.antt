use Rattle.std.proofs.Common.{Option, Err, ap, refl, subst}
use Rattle.map_io.specs.Fetched.{IsFetched}
use Rattle.machine_defs.specs.Outside.{Files, Rose}
use Rattle.machine_defs.specs.Halving.{HalfAnswer}
use Rattle.machine_defs.specs.Program.{Half, lines, file_limit}
use Rattle.map_run.proofs.ListingFacts.{unfetched-file, Ends-file}
use Rattle.map_run.proofs.EndingFacts.{Ends-unfetched}
use Rattle.map_run.proofs.half.half.Goals as goal

pub returns-in-Ok-clause-outcome : goal.returns-in-Ok-clause-outcome
returns-in-Ok-clause-outcome g c = λ hook words files tells holds.
    let fetched = rw holds at c.in-Ok.ensures.bytes in
    Ends-file files c.args.name.now (Half c.args.name.now) HalfAnswer (λ hook' text status answer. answer) hook c.in-Ok.bytes.items words
    (g.S.Sink.written c.args.out.now) (g.S.Sink.written c.half_bytes.new.out)
    (Rose (g.F.Shelf.faults c.args.shelf.now) (g.F.Shelf.faults c.fetch.new.self)) (Rose (g.S.Sink.faults c.args.out.now) (g.S.Sink.faults c.half_bytes.new.out))
    c.half_bytes.result tells refl (fetched.1, fetched.0) (rw c.deref.ensures.value at c.half_bytes.ensures.ends)

pub returns-in-Err-clause-outcome : goal.returns-in-Err-clause-outcome
returns-in-Err-clause-outcome g c = λ hook words files tells holds.
    let fetched = subst (λ (o : Option Files). IsFetched o c.args.name.now file_limit (Err c.in-Err.fault)) holds c.in-Err.ensures.bytes in
    Ends-unfetched hook (Half c.args.name.now) (g.S.Sink.written c.args.out.now) (g.S.Sink.written c.write_unfetched.new.out) words files
    (Rose (g.F.Shelf.faults c.args.shelf.now) (g.F.Shelf.faults c.fetch.new.self)) (Rose (g.S.Sink.faults c.args.out.now) (g.S.Sink.faults c.write_unfetched.new.out))
    c.in-Err.fault c.write_unfetched.result tells (lines (Half c.args.name.now) tells refl)
    (unfetched-file files c.args.name.now (Half c.args.name.now) HalfAnswer (λ hook' text status answer. answer) c.in-Err.fault fetched)
    (λ is. c.in-Err.ensures.cause.rose (ap Err is)) c.write_unfetched.ensures.failed c.write_unfetched.ensures.too_long c.write_unfetched.ensures.no_memory
