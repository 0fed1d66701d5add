use Rattle.std.proofs.Common.{rules, FitsSigned, append_assoc}
use Rattle.std.specs.Int.{w128}
use Rattle.std.proofs.lemmas.Int.{to_z-of_z}
use Rattle.text_lines.proofs.AppendFacts.{AppendsFront-then, AppendsFront-cut, Appends-at_err}
use Rattle.map_run.proofs.soak.SoakLineTextLine.append_to.Goals as goal

pub returns-in_err-append_spaced : goal.returns-in_err-append_spaced
returns-in_err-append_spaced c =
    simp append_assoc (Appends-at_err _ _ c.from_residual-in_err-append_spaced.ensures.1
    (AppendsFront-then _ c.in_ok-extend_from_slice.ensures.items
    (AppendsFront-cut _ c.in_err-append_spaced.ensures)))

pub returns-in_err-append_spaced-2 : goal.returns-in_err-append_spaced-2
returns-in_err-append_spaced-2 c =
    simp append_assoc (Appends-at_err _ _ c.from_residual-in_err-append_spaced-2.ensures.1
    (AppendsFront-then _ c.in_ok-extend_from_slice.ensures.items
    (AppendsFront-then _ c.in_ok-append_spaced.ensures
    (AppendsFront-cut _ c.in_err-append_spaced-2.ensures))))

pub returns-in_err-append_spaced-3 : goal.returns-in_err-append_spaced-3
returns-in_err-append_spaced-3 c =
    let fits : FitsSigned w128 c.args.self.now.total = search rules in
    simp append_assoc (Appends-at_err _ _ c.from_residual-in_err-append_spaced-3.ensures.1
    (AppendsFront-then _ c.in_ok-extend_from_slice.ensures.items
    (AppendsFront-then _ c.in_ok-append_spaced.ensures
    (AppendsFront-then _ c.in_ok-append_spaced-2.ensures
    (AppendsFront-cut _ (rw (to_z-of_z w128 c.args.self.now.total fits) at c.in_err-append_spaced-3.ensures))))))
