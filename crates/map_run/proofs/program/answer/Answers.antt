use Rattle.std.proofs.Common.{map, string_bytes, refl, subst, inl, inr, lit≤}
use Rattle.machine_defs.specs.Outside.{Rose}
use Rattle.machine_defs.specs.Program.{Audit, Half, TellsCommand, untold, usage}
use Rattle.machine_defs.specs.Soaking.{SoakAnswer}
use Rattle.map_run.specs.Commands.{kind_of, run_of, soak_of, command_of}
use Rattle.map_run.specs.declared.command.Command.{Command}
use Rattle.map_run.proofs.AnswerFacts.{Ends-answer}
use Rattle.map_run.proofs.EndingFacts.{Ends-last}
use Rattle.map_run.proofs.program.answer.Goals as goal

pub returns-in-None-clause-outcome : goal.returns-in-None-clause-outcome
returns-in-None-clause-outcome g c = λ files known.
    Ends-last (g.H.Hook.hook c.args.hook.now) (g.S.Sink.written c.args.out.now) (g.S.Sink.written c.write_last.new.out) (map string_bytes c.args.words.now) files (Rose (g.F.Shelf.faults c.args.shelf.now) (g.F.Shelf.faults c.args.shelf.now)) (Rose (g.S.Sink.faults c.args.out.now) (g.S.Sink.faults c.write_last.new.out))
    usage 2 c.write_last.result (untold (c.in-None.ensures.none.0 refl) refl refl) (lit≤ tt) c.write_last.ensures.written

pub returns-in-Some-Run-clause-outcome : goal.returns-in-Some-Run-clause-outcome
returns-in-Some-Run-clause-outcome g c = λ files known. elim known [
  | inl holds ↦ c.run_script.ensures.outcome (map string_bytes c.args.words.now) files (subst (λ (d : Command). TellsCommand (map string_bytes c.args.words.now) (command_of d)) c.in-Some-Run.field-0-is c.in-Some-Run.ensures.told) holds
  | inr needless ↦ absurd (needless c.in-Some-Run.command.script.now (run_of c.in-Some-Run.command, (subst (λ (d : Command). TellsCommand (map string_bytes c.args.words.now) (command_of d)) c.in-Some-Run.field-0-is c.in-Some-Run.ensures.told), inr refl))
]

pub returns-in-Some-Audit-clause-outcome : goal.returns-in-Some-Audit-clause-outcome
returns-in-Some-Audit-clause-outcome g c = λ files known. elim known [
  | inl holds ↦ c.audit.ensures.outcome (g.H.Hook.hook c.args.hook.now) (map string_bytes c.args.words.now) files (subst (λ (d : Command). TellsCommand (map string_bytes c.args.words.now) (command_of d)) c.in-Some-Audit.field-0-is c.in-Some-Audit.ensures.told) holds
  | inr needless ↦ absurd (needless c.in-Some-Audit.name.now (Audit c.in-Some-Audit.name.now, (subst (λ (d : Command). TellsCommand (map string_bytes c.args.words.now) (command_of d)) c.in-Some-Audit.field-0-is c.in-Some-Audit.ensures.told), refl))
]

pub returns-in-Some-Half-clause-outcome : goal.returns-in-Some-Half-clause-outcome
returns-in-Some-Half-clause-outcome g c = λ files known. elim known [
  | inl holds ↦ c.half.ensures.outcome (g.H.Hook.hook c.args.hook.now) (map string_bytes c.args.words.now) files (subst (λ (d : Command). TellsCommand (map string_bytes c.args.words.now) (command_of d)) c.in-Some-Half.field-0-is c.in-Some-Half.ensures.told) holds
  | inr needless ↦ absurd (needless c.in-Some-Half.name.now (Half c.in-Some-Half.name.now, (subst (λ (d : Command). TellsCommand (map string_bytes c.args.words.now) (command_of d)) c.in-Some-Half.field-0-is c.in-Some-Half.ensures.told), refl))
]

pub soak-requires-clause-count : goal.soak-requires-clause-count
soak-requires-clause-count g c =
    let told = subst (λ (d : Command). TellsCommand (map string_bytes c.args.words.now) (command_of d)) c.in-Some-Soak.field-0-is c.in-Some-Soak.ensures.told in
    told.0.2

pub returns-in-Some-Soak-clause-outcome : goal.returns-in-Some-Soak-clause-outcome
returns-in-Some-Soak-clause-outcome g c = λ files known.
    let told = subst (λ (d : Command). TellsCommand (map string_bytes c.args.words.now) (command_of d)) c.in-Some-Soak.field-0-is c.in-Some-Soak.ensures.told in
    let command = c.in-Some-Soak.command in
    let hook = g.H.Hook.hook c.args.hook.now in
    Ends-answer hook (map string_bytes c.args.words.now) files (Rose (g.F.Shelf.faults c.args.shelf.now) (g.F.Shelf.faults c.args.shelf.now)) (Rose (g.S.Sink.faults c.args.out.now) (g.S.Sink.faults c.soak.new.out))
    (soak_of command) told refl (SoakAnswer hook (kind_of command.kind) command.seed command.count) (λ text status answer. answer)
    (g.S.Sink.written c.args.out.now) (g.S.Sink.written c.soak.new.out) c.soak.result c.soak.ensures.ends
