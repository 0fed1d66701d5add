use Rattle.std.proofs.Common.{append_assoc}
use Rattle.text_lines.proofs.AppendFacts.{AppendsFront-then, AppendsFront-cut, Appends-at_err}
use Rattle.off_text.proofs.line.append_counts.Goals as goal

pub returns-in_err-append_spaced-2 : goal.returns-in_err-append_spaced-2
returns-in_err-append_spaced-2 c =
    simp append_assoc (Appends-at_err _ _ c.from_residual-in_err-append_spaced-2.ensures.1
    (AppendsFront-then _ c.in_ok-append_number.ensures
    (AppendsFront-then _ c.in_ok-append_spaced.ensures
    (AppendsFront-cut _ c.in_err-append_spaced-2.ensures))))
