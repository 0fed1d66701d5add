use Rattle.std.proofs.Common.{rules, FitsSigned}
use Rattle.std.specs.Int.{w128}
use Rattle.std.proofs.lemmas.Int.{to_z-of_z}
use Rattle.std.proofs.lemmas.Result.{err_from_is_err_and}
use Rattle.machine_defs.specs.Soaking.{soak_line}
use Rattle.machine_defs.specs.Text.{Counts, reply_text}
use Rattle.text_lines.proofs.WritingFacts.{Writes-then, Writes-cut}
use Rattle.map_run.proofs.soak.put_summary.Goals as goal

pub returns-in_err-put_line-clause-written : goal.returns-in_err-put_line-clause-written
returns-in_err-put_line-clause-written g c =
    let s = c.args.summary in
    let fits : FitsSigned w128 s.total = search rules in
    let p = err_from_is_err_and c.from_residual.result c.from_residual.ensures.1 in
    rw (p.1, p.2)
    (Writes-cut (g.S.Sink.written c.args.out.now) (g.S.Sink.written c.put_line.new.out) c.in_err-put_line.field-0.0 (soak_line s.lines s.accepted s.total) (reply_text (Counts s.counts.items))
    (rw (to_z-of_z w128 s.total fits) at c.in_err-put_line.ensures.written))

pub returns-clause-written : goal.returns-clause-written
returns-clause-written g c =
    let s = c.args.summary in
    let fits : FitsSigned w128 s.total = search rules in
    Writes-then (g.S.Sink.written c.args.out.now) (g.S.Sink.written c.put_line.new.out) (g.S.Sink.written c.put_line-2.new.out) c.put_line-2.result c.in_ok-put_line.field-0
    (soak_line s.lines s.accepted s.total) (reply_text (Counts s.counts.items)) (rw (to_z-of_z w128 s.total fits) at c.in_ok-put_line.ensures.written) c.put_line-2.ensures.written
