use Rattle.std.proofs.Common.{Err, ap}
use Rattle.machine_defs.specs.Outside.{Rose}
use Rattle.map_run.specs.Commands.{kind_of, number, mesh_name, run_of}
use Rattle.map_run.specs.Texts.{mesh_bytes}
use Rattle.map_run.proofs.StartFacts.{starts-nothing}
use Rattle.map_run.proofs.EndingFacts.{Ends-unfetched, Ends-texts}
use Rattle.map_run.proofs.program.run_script.Goals as goal

pub returns-in-Ok-clause-outcome : goal.returns-in-Ok-clause-outcome
returns-in-Ok-clause-outcome g c = λ words files tells holds.
    Ends-texts (g.H.Hook.hook c.args.hook.now) (kind_of c.args.command.kind) (number c.args.command.dimension) (mesh_name c.args.command.mesh) c.args.command.script.now words files
    (g.S.Sink.written c.args.out.now) (g.S.Sink.written c.obey_in_kind.new.out) (Rose (g.F.Shelf.faults c.args.shelf.now) (g.F.Shelf.faults c.fetch_texts.new.shelf)) (Rose (g.S.Sink.faults c.args.out.now) (g.S.Sink.faults c.obey_in_kind.new.out))
    c.obey_in_kind.result (mesh_bytes c.in-Ok.texts.mesh) c.in-Ok.texts.script.items tells (c.in-Ok.ensures.fetched files holds) c.obey_in_kind.ensures.ends

pub returns-in-Err-clause-outcome : goal.returns-in-Err-clause-outcome
returns-in-Err-clause-outcome g c = λ words files tells holds.
    Ends-unfetched (g.H.Hook.hook c.args.hook.now) (run_of c.args.command)
    (g.S.Sink.written c.args.out.now) (g.S.Sink.written c.write_unfetched.new.out) words files
    (Rose (g.F.Shelf.faults c.args.shelf.now) (g.F.Shelf.faults c.fetch_texts.new.shelf)) (Rose (g.S.Sink.faults c.args.out.now) (g.S.Sink.faults c.write_unfetched.new.out))
    c.in-Err.fault c.write_unfetched.result tells
    (starts-nothing (g.H.Hook.hook c.args.hook.now) words files (kind_of c.args.command.kind) (number c.args.command.dimension) c.args.command.script.now (mesh_name c.args.command.mesh) tells)
    (c.in-Err.ensures.fetched files holds) (λ is. c.in-Err.ensures.cause.rose (ap Err is))
    c.write_unfetched.ensures.failed c.write_unfetched.ensures.too_long c.write_unfetched.ensures.no_memory
