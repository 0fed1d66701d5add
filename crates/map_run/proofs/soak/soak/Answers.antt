use Rattle.std.proofs.Common.{ℕ, ◌++◌, nat_lt}
use Rattle.machine_defs.specs.Outside.{Rose}
use Rattle.machine_defs.specs.Soaking.{SoakAnswer, soak_line}
use Rattle.machine_defs.specs.Text.{Counts, reply_text, run_status}
use Rattle.map_run.specs.Commands.{kind_of}
use Rattle.map_run.proofs.AnswerFacts.{put-ends}
use Rattle.map_run.proofs.SoakFacts.{summary-answer, status-low}
use Rattle.map_run.proofs.soak.soak.Goals as goal

pub returns-in-Ok-clause-ends : goal.returns-in-Ok-clause-ends
returns-in-Ok-clause-ends g c =
    let s = c.in-Ok.summary in
    let hook = g.H.Hook.hook c.args.hook.now in
    let kind = kind_of c.args.command.kind in
    let status : ℕ = run_status (nat_lt s.accepted s.lines) in
    rw (c.put_status.ensures, c.summary_status-status.ensures)
    (put-ends (SoakAnswer hook kind c.args.command.seed c.args.command.count) (Rose (g.S.Sink.faults c.args.out.now) (g.S.Sink.faults c.put_summary.new.out))
    (g.S.Sink.written c.args.out.now) (g.S.Sink.written c.put_summary.new.out) (soak_line s.lines s.accepted s.total ++ reply_text (Counts s.counts.items)) status
    (summary-answer hook kind c.args.command.seed c.args.command.count s c.in-Ok.ensures) (status-low (nat_lt s.accepted s.lines))
    c.put_summary.result c.put_summary.ensures.written c.put_summary.ensures.cause.rose)
