use Rattle.std.proofs.Common.{append_assoc}
use Rattle.text_lines.proofs.AppendFacts.{AppendsFront-then, AppendsFront-cut, Appends-at_err}
use Rattle.script_text.proofs.log_line.append_link_change.Goals as goal

pub returns-in_err-append_spaced : goal.returns-in_err-append_spaced
returns-in_err-append_spaced c =
    simp append_assoc (rw (← c.change.view_is) (Appends-at_err _ _ c.from_residual-in_err-append_spaced.ensures.1
    (AppendsFront-then _ c.in_ok-extend_from_slice.ensures.items
    (AppendsFront-cut _ (rw c.number.ensures.same at c.in_err-append_spaced.ensures)))))

pub returns-in_err-append_spaced-2 : goal.returns-in_err-append_spaced-2
returns-in_err-append_spaced-2 c =
    simp append_assoc (rw (← c.change.view_is) (Appends-at_err _ _ c.from_residual-in_err-append_spaced-2.ensures.1
    (AppendsFront-then _ c.in_ok-extend_from_slice.ensures.items
    (AppendsFront-then _ (rw c.number.ensures.same at c.in_ok-append_spaced.ensures)
    (AppendsFront-cut _ c.in_err-append_spaced-2.ensures)))))

pub returns-in_err-append_spaced-3 : goal.returns-in_err-append_spaced-3
returns-in_err-append_spaced-3 c =
    simp append_assoc (rw (← c.change.view_is) (Appends-at_err _ _ c.from_residual-in_err-append_spaced-3.ensures.1
    (AppendsFront-then _ c.in_ok-extend_from_slice.ensures.items
    (AppendsFront-then _ (rw c.number.ensures.same at c.in_ok-append_spaced.ensures)
    (AppendsFront-then _ c.in_ok-append_spaced-2.ensures
    (AppendsFront-cut _ c.in_err-append_spaced-3.ensures))))))

pub returns-in_err-append_spaced-4 : goal.returns-in_err-append_spaced-4
returns-in_err-append_spaced-4 c =
    simp append_assoc (rw (← c.change.view_is) (Appends-at_err _ _ c.from_residual-in_err-append_spaced-4.ensures.1
    (AppendsFront-then _ c.in_ok-extend_from_slice.ensures.items
    (AppendsFront-then _ (rw c.number.ensures.same at c.in_ok-append_spaced.ensures)
    (AppendsFront-then _ c.in_ok-append_spaced-2.ensures
    (AppendsFront-then _ c.in_ok-append_spaced-3.ensures
    (AppendsFront-cut _ c.in_err-append_spaced-4.ensures)))))))
