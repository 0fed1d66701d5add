use Rattle.std.proofs.Common.{append_assoc}
use Rattle.text_lines.proofs.AppendFacts.{AppendsFront-then, AppendsFront-cut, Appends-at_err}
use Rattle.list_text.proofs.line.append_mark.Goals as goal

pub returns-in_err-append_name : goal.returns-in_err-append_name
returns-in_err-append_name c =
    simp append_assoc (Appends-at_err _ _ c.from_residual-in_err-append_name.ensures.1
    (AppendsFront-then _ c.in_ok-extend_from_slice.ensures.items
    (AppendsFront-cut _ c.in_err-append_name.ensures)))
