use Rattle.std.proofs.Common.{ℕ, ◌+◌, ◌++◌, List, take, Ok, Err, arith}
use Rattle.std.proofs.lemmas.Result.{err_from_is_err_and}
use Rattle.machine_defs.specs.Difference.{Difference}
use Rattle.machine_defs.specs.LogText.{step_text, steps_text}
use Rattle.text_lines.proofs.WritingFacts.{Writes-then, Writes-cut}
use Rattle.script_text.proofs.LogTexts.{steps_text-more, steps_text-rest}
use Rattle.script_text.proofs.log.put_steps.Goals as goal

pub returns-in_err-put_step-clause-written : goal.returns-in_err-put_step-clause-written
returns-in_err-put_step-clause-written g c =
    let steps : List Difference = c.args.steps.now in
    let k : ℕ = c.loop-index.index in
    let x : Difference = c.index-steps-index.result in
    let p = err_from_is_err_and c.from_residual.result c.from_residual.ensures.1 in
    let here = rw c.in_err-put_step.was at c.put_step.ensures.written in
    let rest = steps_text-rest steps (k + 1) in
    rw (p.1, p.2, rest.1, steps_text-more k steps x (omega arith) c.index-steps-index.is)
    (Writes-cut (g.S.Sink.written c.args.out.now) (g.S.Sink.written c.put_step.new.out) c.in_err-put_step.field-0.0 (steps_text 1 (take k steps) ++ step_text (k + 1) x) rest.0
    (Writes-then (g.S.Sink.written c.args.out.now) (g.S.Sink.written c.loop-index.out) (g.S.Sink.written c.put_step.new.out) (Err c.in_err-put_step.field-0.0) tt (steps_text 1 (take k steps)) (step_text (k + 1) x)
    c.loop-index.invariant.0 here))

pub loop-index-preserved : goal.loop-index-preserved
loop-index-preserved g c =
    let steps : List Difference = c.args.steps.now in
    let k : ℕ = c.loop-index.index in
    let x : Difference = c.index-steps-index.result in
    let here = rw c.in_ok-put_step.was at c.put_step.ensures.written in (
      rw (steps_text-more k steps x (omega arith) c.index-steps-index.is)
          (Writes-then (g.S.Sink.written c.args.out.now) (g.S.Sink.written c.loop-index.out) (g.S.Sink.written c.put_step.new.out) (Ok tt) tt (steps_text 1 (take k steps)) (step_text (k + 1) x)
          c.loop-index.invariant.0 here),
      omega (arith, c.put_step.ensures.cause.later),
    )
