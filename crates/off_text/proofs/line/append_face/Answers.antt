use Rattle.std.proofs.Common.{[], ◌∷◌, ◌++◌, length}
use Rattle.std.specs.Fmt.{decimal}
use Rattle.std.specs.List.{flat_map}
use Rattle.std.proofs.lemmas.List.{take_all}
use Rattle.machine_defs.specs.TextLines.{spaced}
use Rattle.text_lines.proofs.AppendFacts.{AppendsFront-nothing, AppendsFront-then, AppendsFront-cut, AppendsFront-each, Appends-at_err}
use Rattle.off_text.proofs.line.append_face.Goals as goal

pub returns-in_err-append_spaced : goal.returns-in_err-append_spaced
returns-in_err-append_spaced c =
    Appends-at_err _ _ c.from_residual-in_err-append_spaced.ensures.1
    (AppendsFront-cut (10 ∷ [])
    (AppendsFront-each spaced (decimal (length c.args.corners.now)) c.args.corners.now c.loop-corner.corner-index 0 c.loop-corner-test.true c.loop-corner.invariant c.in_err-append_spaced.ensures))

pub returns-in_err-push : goal.returns-in_err-push
returns-in_err-push c =
    let whole = rw (take_all c.loop-corner.corner-index c.args.corners.now c.loop-corner-test.false) at c.loop-corner.invariant in
    Appends-at_err _ _ c.from_residual-in_err-push.ensures.1
    (AppendsFront-then (decimal (length c.args.corners.now) ++ flat_map spaced c.args.corners.now) whole (AppendsFront-nothing (10 ∷ []) c.in_err-push.ensures.items))
