use Rattle.std.proofs.Common.{ℕ, List, ◌++◌, Ok, Err, codes, length}
use Rattle.std.proofs.lemmas.Result.{err_from_is_err_and}
use Rattle.machine_defs.specs.Difference.{Difference}
use Rattle.machine_defs.specs.TextLines.{ended, spaced}
use Rattle.machine_defs.specs.LogText.{steps_text}
use Rattle.text_lines.proofs.WritingFacts.{Writes-then, Writes-cut}
use Rattle.script_text.proofs.log.put_log.Goals as goal

abbrev header : List Difference → List ℕ
header steps = ended (codes "log" ++ spaced (length steps))

pub returns-in_err-put_line-clause-written : goal.returns-in_err-put_line-clause-written
returns-in_err-put_line-clause-written g c =
    let steps : List Difference = c.args.steps.now in
    let p = err_from_is_err_and c.from_residual.result c.from_residual.ensures.1 in
    let head = rw c.in_err-put_line.was at c.put_line.ensures.written in
    rw (p.1, p.2)
    (Writes-cut (g.S.Sink.written c.args.out.now) (g.S.Sink.written c.put_line.new.out) c.in_err-put_line.field-0.0 (header steps ++ steps_text 1 steps) (ended (codes "end"))
    (Writes-cut (g.S.Sink.written c.args.out.now) (g.S.Sink.written c.put_line.new.out) c.in_err-put_line.field-0.0 (header steps) (steps_text 1 steps) head))

pub returns-in_err-put_steps-clause-written : goal.returns-in_err-put_steps-clause-written
returns-in_err-put_steps-clause-written g c =
    let steps : List Difference = c.args.steps.now in
    let p = err_from_is_err_and c.from_residual-in_err-put_steps.result c.from_residual-in_err-put_steps.ensures.1 in
    let head = rw c.in_ok-put_line.was at c.put_line.ensures.written in
    let told = rw c.in_err-put_steps.was at c.put_steps.ensures.written in
    rw (p.1, p.2)
    (Writes-cut (g.S.Sink.written c.args.out.now) (g.S.Sink.written c.put_steps.new.out) c.in_err-put_steps.field-0.0 (header steps ++ steps_text 1 steps) (ended (codes "end"))
    (Writes-then (g.S.Sink.written c.args.out.now) (g.S.Sink.written c.put_line.new.out) (g.S.Sink.written c.put_steps.new.out) (Err c.in_err-put_steps.field-0.0) c.in_ok-put_line.field-0 (header steps) (steps_text 1 steps) head told))

pub returns-clause-written : goal.returns-clause-written
returns-clause-written g c =
    let steps : List Difference = c.args.steps.now in
    let head = rw c.in_ok-put_line.was at c.put_line.ensures.written in
    let told = rw c.in_ok-put_steps.was at c.put_steps.ensures.written in
    Writes-then (g.S.Sink.written c.args.out.now) (g.S.Sink.written c.put_steps.new.out) (g.S.Sink.written c.put_line-2.new.out) c.put_line-2.result c.in_ok-put_steps.field-0 (header steps ++ steps_text 1 steps) (ended (codes "end"))
    (Writes-then (g.S.Sink.written c.args.out.now) (g.S.Sink.written c.put_line.new.out) (g.S.Sink.written c.put_steps.new.out) (Ok c.in_ok-put_steps.field-0) c.in_ok-put_line.field-0 (header steps) (steps_text 1 steps) head told)
    c.put_line-2.ensures.written
