use Rattle.std.proofs.Common.{[], ◌∷◌, ◌++◌}
use Rattle.std.specs.Fmt.{decimal}
use Rattle.std.specs.List.{flat_map}
use Rattle.std.proofs.lemmas.List.{take_all}
use Rattle.machine_defs.specs.Text.{spaced}
use Rattle.text_lines.proofs.AppendFacts.{AppendsFront-nothing, AppendsFront-then, AppendsFront-cut, AppendsFront-each, Appends-at_err}
use Rattle.list_text.proofs.line.append_row.Goals as goal

pub returns-in_err-append_spaced : goal.returns-in_err-append_spaced
returns-in_err-append_spaced c =
    Appends-at_err _ _ c.from_residual-in_err-append_spaced.ensures.1
    (AppendsFront-cut (10 ∷ [])
    (AppendsFront-each spaced (decimal c.args.dart ++ 58 ∷ []) c.args.links.now c.loop-link.link-index 0 c.loop-link-test.true c.loop-link.invariant c.in_err-append_spaced.ensures))

pub returns-in_err-push-2 : goal.returns-in_err-push-2
returns-in_err-push-2 c =
    let whole = rw (take_all c.loop-link.link-index c.args.links.now c.loop-link-test.false) at c.loop-link.invariant in
    Appends-at_err _ _ c.from_residual-in_err-push-2.ensures.1
    (AppendsFront-then (decimal c.args.dart ++ 58 ∷ [] ++ flat_map spaced c.args.links.now) whole (AppendsFront-nothing (10 ∷ []) c.in_err-push-2.ensures.items))
