use Rattle.std.proofs.Common.{[], ◌∷◌, rules, SFits, w64, append_assoc}
use Rattle.std.specs.Fmt.{signed_decimal}
use Rattle.std.proofs.lemmas.Int.{to_z-of_z}
use Rattle.machine_defs.specs.TextLines.{spaced_signed}
use Rattle.text_lines.proofs.AppendFacts.{AppendsFront-nothing, AppendsFront-then, AppendsFront-cut, Appends-at_err}
use Rattle.off_text.proofs.Gathered.{four}
use Rattle.off_text.proofs.line.append_point.Goals as goal

pub returns-in_err-append_spaced : goal.returns-in_err-append_spaced
returns-in_err-append_spaced c =
    let a_fits : SFits w64 c.point.inside.a = search rules in
    let b_fits : SFits w64 c.point.inside.b = search rules in
    simp append_assoc (rw (← c.point.view_is) (Appends-at_err _ _ c.from_residual-in_err-append_spaced.ensures.1
    (AppendsFront-then _ (rw (to_z-of_z w64 c.point.inside.a a_fits) at c.in_ok-append_number.ensures)
    (AppendsFront-cut _ (rw (to_z-of_z w64 c.point.inside.b b_fits) at c.in_err-append_spaced.ensures)))))

pub returns-in_err-append_spaced-2 : goal.returns-in_err-append_spaced-2
returns-in_err-append_spaced-2 c =
    let a_fits : SFits w64 c.point.inside.a = search rules in
    let b_fits : SFits w64 c.point.inside.b = search rules in
    let c_fits : SFits w64 c.point.inside.c = search rules in
    simp append_assoc (rw (← c.point.view_is) (Appends-at_err _ _ c.from_residual-in_err-append_spaced-2.ensures.1
    (AppendsFront-then _ (rw (to_z-of_z w64 c.point.inside.a a_fits) at c.in_ok-append_number.ensures)
    (AppendsFront-then _ (rw (to_z-of_z w64 c.point.inside.b b_fits) at c.in_ok-append_spaced.ensures)
    (AppendsFront-cut _ (rw (to_z-of_z w64 c.point.inside.c c_fits) at c.in_err-append_spaced-2.ensures))))))

pub returns-in_err-push : goal.returns-in_err-push
returns-in_err-push c =
    let a_fits : SFits w64 c.point.inside.a = search rules in
    let b_fits : SFits w64 c.point.inside.b = search rules in
    let c_fits : SFits w64 c.point.inside.c = search rules in
    simp append_assoc (rw (← c.point.view_is) (Appends-at_err _ _ c.from_residual-in_err-push.ensures.1
    (AppendsFront-then _ (rw (to_z-of_z w64 c.point.inside.a a_fits) at c.in_ok-append_number.ensures)
    (AppendsFront-then _ (rw (to_z-of_z w64 c.point.inside.b b_fits) at c.in_ok-append_spaced.ensures)
    (AppendsFront-then _ (rw (to_z-of_z w64 c.point.inside.c c_fits) at c.in_ok-append_spaced-2.ensures)
    (AppendsFront-nothing _ c.in_err-push.ensures.items))))))

pub returns : goal.returns
returns c =
    let a_fits : SFits w64 c.point.inside.a = search rules in
    let b_fits : SFits w64 c.point.inside.b = search rules in
    let c_fits : SFits w64 c.point.inside.c = search rules in
    rw (← c.point.view_is, c.in_ok-push.ensures.items, c.in_ok-append_spaced-2.ensures, c.in_ok-append_spaced.ensures, c.in_ok-append_number.ensures, to_z-of_z w64 c.point.inside.a a_fits, to_z-of_z w64 c.point.inside.b b_fits, to_z-of_z w64 c.point.inside.c c_fits)
    (four c.args.text.now.items (signed_decimal c.point.inside.a) (spaced_signed c.point.inside.b) (spaced_signed c.point.inside.c) (10 ∷ []))
