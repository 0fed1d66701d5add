use Rattle.std.proofs.Common.{map, string_bytes}
use Rattle.machine_defs.specs.Outside.{Rose}
use Rattle.map_run.proofs.EndingFacts.{EndsWhole-from}
use Rattle.map_run.proofs.program.run.Goals as goal

pub returns-clause-complete : goal.returns-clause-complete
returns-clause-complete g c = λ files known no_shelf no_sink.
    EndsWhole-from (g.H.Hook.hook c.args.hook.now) (g.S.Sink.written c.args.out.now) (g.S.Sink.written c.serve.new.out) (map string_bytes c.args.words.now) files
    (Rose (g.F.Shelf.faults c.args.shelf.now) (g.F.Shelf.faults c.serve.new.shelf)) (Rose (g.S.Sink.faults c.args.out.now) (g.S.Sink.faults c.serve.new.out)) c.serve.result
    no_shelf no_sink (c.serve.ensures.outcome files known)
