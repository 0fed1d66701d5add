use Rattle.std.proofs.Common.{append_assoc}
use Rattle.text_lines.proofs.AppendFacts.{AppendsFront-then, AppendsFront-cut, Appends-at_err}
use Rattle.list_text.proofs.line.append_rule.Goals as goal

pub returns-in_err-append_spaced : goal.returns-in_err-append_spaced
returns-in_err-append_spaced c =
    simp append_assoc (Appends-at_err _ _ c.from_residual-in_err-append_spaced.ensures.1
    (AppendsFront-then _ c.in_ok-extend_from_slice.ensures.items
    (AppendsFront-cut _ c.in_err-append_spaced.ensures)))

pub returns-in_err-append_name : goal.returns-in_err-append_name
returns-in_err-append_name c =
    simp append_assoc (rw (← c.rule.view_is) (Appends-at_err _ _ c.from_residual-in_err-append_name.ensures.1
    (AppendsFront-then _ c.in_ok-extend_from_slice.ensures.items
    (AppendsFront-then _ c.in_ok-append_spaced.ensures
    (AppendsFront-cut _ (rw c.name.ensures at c.in_err-append_name.ensures))))))

pub returns-in_err-append_name-2 : goal.returns-in_err-append_name-2
returns-in_err-append_name-2 c =
    simp append_assoc (rw (← c.rule.view_is) (Appends-at_err _ _ c.from_residual-in_err-append_name-2.ensures.1
    (AppendsFront-then _ c.in_ok-extend_from_slice.ensures.items
    (AppendsFront-then _ c.in_ok-append_spaced.ensures
    (AppendsFront-then _ (rw c.name.ensures at c.in_ok-append_name.ensures)
    (AppendsFront-cut _ (rw c.name-2.ensures at c.in_err-append_name-2.ensures)))))))
