use Rattle.std.proofs.Common.{[], ◌∷◌, codes, rules, SFits, w64, append_assoc}
use Rattle.std.proofs.lemmas.Int.{to_z-of_z}
use Rattle.machine_defs.specs.Text.{spaced, spaced_signed}
use Rattle.text_lines.proofs.AppendFacts.{AppendsFront-nothing, AppendsFront-then, AppendsFront-cut, Appends-at_err}
use Rattle.list_text.proofs.Gathered.{seven}
use Rattle.list_text.proofs.line.append_value.Goals as goal

pub returns-in_err-append_spaced : goal.returns-in_err-append_spaced
returns-in_err-append_spaced c =
    simp append_assoc (Appends-at_err _ _ c.from_residual-in_err-append_spaced.ensures.1
    (AppendsFront-then _ c.in_ok-extend_from_slice.ensures.items
    (AppendsFront-cut _ c.in_err-append_spaced.ensures)))

pub returns-in_err-append_spaced-2 : goal.returns-in_err-append_spaced-2
returns-in_err-append_spaced-2 c =
    simp append_assoc (rw (← c.place.view_is) (Appends-at_err _ _ c.from_residual-in_err-append_spaced-2.ensures.1
    (AppendsFront-then _ c.in_ok-extend_from_slice.ensures.items
    (AppendsFront-then _ c.in_ok-append_spaced.ensures
    (AppendsFront-cut _ (rw c.number.ensures.same at c.in_err-append_spaced-2.ensures))))))

pub returns-in_err-append_spaced-3 : goal.returns-in_err-append_spaced-3
returns-in_err-append_spaced-3 c =
    let a_fits : SFits w64 c.value.inside.a = search rules in
    simp append_assoc (rw (← c.place.view_is, ← c.value.view_is) (Appends-at_err _ _ c.from_residual-in_err-append_spaced-3.ensures.1
    (AppendsFront-then _ c.in_ok-extend_from_slice.ensures.items
    (AppendsFront-then _ c.in_ok-append_spaced.ensures
    (AppendsFront-then _ (rw c.number.ensures.same at c.in_ok-append_spaced-2.ensures)
    (AppendsFront-cut _ (rw (to_z-of_z w64 c.value.inside.a a_fits) at c.in_err-append_spaced-3.ensures)))))))

pub returns-in_err-append_spaced-4 : goal.returns-in_err-append_spaced-4
returns-in_err-append_spaced-4 c =
    let a_fits : SFits w64 c.value.inside.a = search rules in
    let b_fits : SFits w64 c.value.inside.b = search rules in
    simp append_assoc (rw (← c.place.view_is, ← c.value.view_is) (Appends-at_err _ _ c.from_residual-in_err-append_spaced-4.ensures.1
    (AppendsFront-then _ c.in_ok-extend_from_slice.ensures.items
    (AppendsFront-then _ c.in_ok-append_spaced.ensures
    (AppendsFront-then _ (rw c.number.ensures.same at c.in_ok-append_spaced-2.ensures)
    (AppendsFront-then _ (rw (to_z-of_z w64 c.value.inside.a a_fits) at c.in_ok-append_spaced-3.ensures)
    (AppendsFront-cut _ (rw (to_z-of_z w64 c.value.inside.b b_fits) at c.in_err-append_spaced-4.ensures))))))))

pub returns-in_err-append_spaced-5 : goal.returns-in_err-append_spaced-5
returns-in_err-append_spaced-5 c =
    let a_fits : SFits w64 c.value.inside.a = search rules in
    let b_fits : SFits w64 c.value.inside.b = search rules in
    let c_fits : SFits w64 c.value.inside.c = search rules in
    simp append_assoc (rw (← c.place.view_is, ← c.value.view_is) (Appends-at_err _ _ c.from_residual-in_err-append_spaced-5.ensures.1
    (AppendsFront-then _ c.in_ok-extend_from_slice.ensures.items
    (AppendsFront-then _ c.in_ok-append_spaced.ensures
    (AppendsFront-then _ (rw c.number.ensures.same at c.in_ok-append_spaced-2.ensures)
    (AppendsFront-then _ (rw (to_z-of_z w64 c.value.inside.a a_fits) at c.in_ok-append_spaced-3.ensures)
    (AppendsFront-then _ (rw (to_z-of_z w64 c.value.inside.b b_fits) at c.in_ok-append_spaced-4.ensures)
    (AppendsFront-cut _ (rw (to_z-of_z w64 c.value.inside.c c_fits) at c.in_err-append_spaced-5.ensures)))))))))

pub returns-in_err-push : goal.returns-in_err-push
returns-in_err-push c =
    let a_fits : SFits w64 c.value.inside.a = search rules in
    let b_fits : SFits w64 c.value.inside.b = search rules in
    let c_fits : SFits w64 c.value.inside.c = search rules in
    simp append_assoc (rw (← c.place.view_is, ← c.value.view_is) (Appends-at_err _ _ c.from_residual-in_err-push.ensures.1
    (AppendsFront-then _ c.in_ok-extend_from_slice.ensures.items
    (AppendsFront-then _ c.in_ok-append_spaced.ensures
    (AppendsFront-then _ (rw c.number.ensures.same at c.in_ok-append_spaced-2.ensures)
    (AppendsFront-then _ (rw (to_z-of_z w64 c.value.inside.a a_fits) at c.in_ok-append_spaced-3.ensures)
    (AppendsFront-then _ (rw (to_z-of_z w64 c.value.inside.b b_fits) at c.in_ok-append_spaced-4.ensures)
    (AppendsFront-then _ (rw (to_z-of_z w64 c.value.inside.c c_fits) at c.in_ok-append_spaced-5.ensures)
    (AppendsFront-nothing _ c.in_err-push.ensures.items)))))))))

pub returns : goal.returns
returns c =
    let a_fits : SFits w64 c.value.inside.a = search rules in
    let b_fits : SFits w64 c.value.inside.b = search rules in
    let c_fits : SFits w64 c.value.inside.c = search rules in
    rw (← c.place.view_is, ← c.value.view_is, c.in_ok-push.ensures.items, c.in_ok-append_spaced-5.ensures, c.in_ok-append_spaced-4.ensures, c.in_ok-append_spaced-3.ensures, c.in_ok-append_spaced-2.ensures, c.number.ensures.same, c.in_ok-append_spaced.ensures, c.in_ok-extend_from_slice.ensures.items, to_z-of_z w64 c.value.inside.a a_fits, to_z-of_z w64 c.value.inside.b b_fits, to_z-of_z w64 c.value.inside.c c_fits)
    (seven c.args.text.now.items (codes "val") (spaced c.args.dim) (spaced c.place.inside.dart) (spaced_signed c.value.inside.a) (spaced_signed c.value.inside.b) (spaced_signed c.value.inside.c) (10 ∷ []))
