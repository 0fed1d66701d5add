use Rattle.std.proofs.Common.{◌≡◌, ℕ, List, ◌∷◌, [], ◌++◌, Option, None, Bool, ◌||◌, Ok, IsErrOf, refl, sym, ap, subst, ◌∙◌, append_assoc, arith, rules, lit<}
use Rattle.std.specs.Borrow.{Bor}
use Rattle.std.proofs.lemmas.Result.{err_from_is_err_and}
use Rattle.map_io.specs.declared.sink.PutFault.TheVariants.{Failed}
use Rattle.machine_defs.specs.Script.{lines_of}
use Rattle.map_run.specs.Lines.{lines_after}
use Rattle.text_lines.proofs.WritingFacts.{Appended-nothing}
use Rattle.map_run.proofs.RunFacts.{Going-more, Going-cut, Going-end, cause-earlier}
use Rattle.map_run.proofs.obey.obey_script.Goals as goal
use Rattle.map_run.proofs.obey.obey_script.Goals.{then-refused, else-refused}

pub returns-in_err-line_refused-clause-obeyed : goal.returns-in_err-line_refused-clause-obeyed
returns-in_err-line_refused-clause-obeyed g c =
    let script : List ℕ = c.args.script.now in
    let line : List ℕ = c.next_line.result.0.now in
    let after : List (List ℕ) = lines_after c.next_line.result.1 in
    let done : List (List ℕ) = c.loop-rest.invariant.0.0 in
    let p = err_from_is_err_and c.from_residual.result c.from_residual.ensures.1 in
    let here = rw (c.in_err-line_refused.was, c.loop-rest.invariant.1) at c.obey_line.ensures.answered in
    let are : lines_of script ≡ done ++ line ∷ after =
    c.loop-rest.invariant.0.1 ∙ ap (λ (r : Option (Bor (List ℕ))). done ++ lines_after r) c.in-Some.is ∙ ap (λ (ls : List (List ℕ)). done ++ ls) c.next_line.ensures.lines in
    rw (p.1, p.2)
    (Going-cut (g.H.Hook.hook c.args.map.hook) c.args.map.state c.loop-rest.map.state c.obey_line.new.map.state script done after line c.loop-rest.refused c.in_err-line_refused.field-0.0
    (g.S.Sink.written c.args.out.now) (g.S.Sink.written c.loop-rest.out) (g.S.Sink.written c.obey_line.new.out) are c.loop-rest.invariant.0.2 here)

pub loop-rest-preserved : goal.loop-rest-preserved
loop-rest-preserved g c =
    let script : List ℕ = c.args.script.now in
    let line : List ℕ = c.next_line.result.0.now in
    let after : List (List ℕ) = lines_after c.next_line.result.1 in
    let done : List (List ℕ) = c.loop-rest.invariant.0.0 in
    let here = rw (c.in_ok-line_refused.was, c.loop-rest.invariant.1) at c.obey_line.ensures.answered in
    let are : lines_of script ≡ done ++ line ∷ after =
    c.loop-rest.invariant.0.1 ∙ ap (λ (r : Option (Bor (List ℕ))). done ++ lines_after r) c.in-Some.is ∙ ap (λ (ls : List (List ℕ)). done ++ ls) c.next_line.ensures.lines in
    let same : c.if-refused.refused ≡ (c.loop-rest.refused || c.in_ok-line_refused.line_refused) = elim c.if-refused.branch [
      | then-refused w ↦ rw (w.refused-is, w.if-refused.true) refl
      | else-refused w ↦ rw (w.refused-is, w.if-refused.false) refl
    ] in (
      (
        done ++ line ∷ [],
        are ∙ sym (append_assoc done (line ∷ []) after),
        rw same (Going-more (g.H.Hook.hook c.args.map.hook) c.args.map.state c.loop-rest.map.state c.obey_line.new.map.state done line c.loop-rest.refused c.in_ok-line_refused.line_refused
            (g.S.Sink.written c.args.out.now) (g.S.Sink.written c.loop-rest.out) (g.S.Sink.written c.obey_line.new.out) c.loop-rest.invariant.0.2 here),
      ),
      c.obey_line.ensures.hook ∙ c.loop-rest.invariant.1,
      (let later = c.obey_line.ensures.cause.later in let before = c.loop-rest.invariant.2 in omega arith),
    )

pub obey_line-requires : goal.obey_line-requires
obey_line-requires g c = (lit< tt, subst g.H.Rule.ready (sym c.loop-rest.invariant.1) c.requires)

pub loop-rest-init : goal.loop-rest-init
loop-rest-init g c = (
  ([], refl, record { replies = []; run = (refl, refl); any = refl; appended = Appended-nothing (g.S.Sink.written c.args.out.now) }),
  refl,
  omega arith,
)

pub returns-in_err-line_refused-clause-cause : goal.returns-in_err-line_refused-clause-cause
returns-in_err-line_refused-clause-cause g c =
    let p = err_from_is_err_and c.from_residual.result c.from_residual.ensures.1 in
    let cause = rw c.in_err-line_refused.was at c.obey_line.ensures.cause in
    rw (p.1, p.2)
    (cause-earlier (g.S.Sink.faults c.args.out.now) (g.S.Sink.faults c.loop-rest.out) (g.S.Sink.faults c.obey_line.new.out) _ c.loop-rest.invariant.2 cause)

pub returns-clause-obeyed : goal.returns-clause-obeyed
returns-clause-obeyed g c =
    let script : List ℕ = c.args.script.now in
    let done : List (List ℕ) = c.loop-rest.invariant.0.0 in
    let over : c.loop-rest.rest ≡ None = search rules in
    Going-end (g.H.Hook.hook c.args.map.hook) c.args.map.state c.loop-rest.map.state script done c.loop-rest.refused (g.S.Sink.written c.args.out.now) (g.S.Sink.written c.loop-rest.out)
    (c.loop-rest.invariant.0.1 ∙ ap (λ (r : Option (Bor (List ℕ))). done ++ lines_after r) over) c.loop-rest.invariant.0.2

-- a script that was obeyed to its end met no fault
no-fault : (refused : Bool) → IsErrOf (Ok refused) Failed → ⊥
no-fault refused is = cc

pub returns-clause-cause : goal.returns-clause-cause
returns-clause-cause g c = record { later = c.loop-rest.invariant.2; rose = λ failed. absurd (no-fault c.loop-rest.refused failed) }
