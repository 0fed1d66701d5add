use Rattle.std.proofs.Common.{append_assoc}
use Rattle.text_lines.proofs.AppendFacts.{AppendsFront-then, AppendsFront-cut, Appends-at_err}
use Rattle.script_text.proofs.log_line.append_rule_change.Goals as goal

pub returns-in_err-append_spaced : goal.returns-in_err-append_spaced
returns-in_err-append_spaced c =
    simp append_assoc (rw (← c.change.view_is) (Appends-at_err _ _ c.from_residual-in_err-append_spaced.ensures.1
    (AppendsFront-then _ c.in_ok-extend_from_slice.ensures.items
    (AppendsFront-cut _ c.in_err-append_spaced.ensures))))

pub returns-in_err-append_logged_rule : goal.returns-in_err-append_logged_rule
returns-in_err-append_logged_rule c =
    simp append_assoc (rw (← c.change.view_is) (Appends-at_err _ _ c.from_residual-in_err-append_logged_rule.ensures.1
    (AppendsFront-then _ c.in_ok-extend_from_slice.ensures.items
    (AppendsFront-then _ c.in_ok-append_spaced.ensures
    (AppendsFront-cut _ c.in_err-append_logged_rule.ensures)))))

pub returns-in_err-append_logged_rule-2 : goal.returns-in_err-append_logged_rule-2
returns-in_err-append_logged_rule-2 c =
    simp append_assoc (rw (← c.change.view_is) (Appends-at_err _ _ c.from_residual-in_err-append_logged_rule-2.ensures.1
    (AppendsFront-then _ c.in_ok-extend_from_slice.ensures.items
    (AppendsFront-then _ c.in_ok-append_spaced.ensures
    (AppendsFront-then _ c.in_ok-append_logged_rule.ensures
    (AppendsFront-cut _ c.in_err-append_logged_rule-2.ensures))))))
