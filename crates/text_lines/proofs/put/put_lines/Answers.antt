use Rattle.std.proofs.Common.{◌≡◌, ℕ, List, [], ◌∷◌, ◌++◌, Err, Ok, ap, ◌∙◌, subst, arith, rules}
use Rattle.std.specs.List.{flat_map}
use Rattle.std.proofs.lemmas.Iterator.{YieldsList}
use Rattle.std.proofs.lemmas.Result.{err_from_is_err_and}
use Rattle.std.proofs.lemmas.List.{append-nil}
use Rattle.std.proofs.lemmas.Grind.{flat_map-append}
use Rattle.text_lines.proofs.LineTexts.{one-more, no-more}
use Rattle.text_lines.proofs.WritingFacts.{Writes-then, Writes-cut}
use Rattle.text_lines.proofs.put.put_lines.Goals as goal

pub returns-in_err-put_line_over-clause-written : goal.returns-in_err-put_line_over-clause-written
returns-in_err-put_line_over-clause-written g c texts road =
    let text = g.L.TextLine.line in
    let same : c.args.lines ≡ c.into_iter-line-iterator.result = cc in
    let start = subst (λ (s : _). YieldsList g.I.Iterator.next_gives text s texts) same road in
    let p = err_from_is_err_and c.from_residual.result c.from_residual.ensures.1 in
    let here = rw c.in_err-put_line_over.was at c.put_line_over.ensures.written in
    let rest = one-more g.I.Iterator.next_gives text c.into_iter-line-iterator.result c.loop-line.line-iterator c.next.new.self c.loop-line.yielded c.in-Some.line texts c.loop-line.yielded_by c.in-Some.ensures.steps start.runs in
    rw (p.1, p.2, rest.1)
    (Writes-cut (g.S.Sink.written c.args.out.now) (g.S.Sink.written c.put_line_over.new.out) c.in_err-put_line_over.field-0.0 (flat_map text c.loop-line.yielded ++ text c.in-Some.line) rest.0
    (Writes-then (g.S.Sink.written c.args.out.now) (g.S.Sink.written c.loop-line.out) (g.S.Sink.written c.put_line_over.new.out) (Err c.in_err-put_line_over.field-0.0) tt (flat_map text c.loop-line.yielded) (text c.in-Some.line)
    c.loop-line.invariant.2 here))

pub loop-line-preserved : goal.loop-line-preserved
loop-line-preserved g c =
    let text = g.L.TextLine.line in
    let here = rw c.in_ok-put_line_over.was at c.put_line_over.ensures.written in
    let more : flat_map text (c.loop-line.yielded ++ c.in-Some.line ∷ []) ≡ flat_map text c.loop-line.yielded ++ text c.in-Some.line =
    flat_map-append text c.loop-line.yielded (c.in-Some.line ∷ []) ∙ ap (λ (t : List ℕ). flat_map text c.loop-line.yielded ++ t) (append-nil (text c.in-Some.line)) in (
      search rules,
      search rules,
      rw more
          (Writes-then (g.S.Sink.written c.args.out.now) (g.S.Sink.written c.loop-line.out) (g.S.Sink.written c.put_line_over.new.out) (Ok tt) tt (flat_map text c.loop-line.yielded) (text c.in-Some.line)
          c.loop-line.invariant.2 here),
      omega (arith, c.put_line_over.ensures.cause.later),
    )

pub returns-clause-written : goal.returns-clause-written
returns-clause-written g c texts road =
    let text = g.L.TextLine.line in
    let same : c.args.lines ≡ c.into_iter-line-iterator.result = cc in
    let start = subst (λ (s : _). YieldsList g.I.Iterator.next_gives text s texts) same road in
    rw (no-more g.I.Iterator.next_gives text c.into_iter-line-iterator.result c.loop-line.line-iterator c.next.new.self c.loop-line.yielded texts c.loop-line.yielded_by (rw c.in-None.is at c.next.ensures.steps) start.runs)
    c.loop-line.invariant.2
