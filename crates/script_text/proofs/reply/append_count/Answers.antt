use Rattle.std.proofs.Common.{[], ◌∷◌, ◌++◌, codes}
use Rattle.std.specs.List.{flat_map}
use Rattle.std.proofs.lemmas.List.{take_all}
use Rattle.machine_defs.specs.Text.{spaced}
use Rattle.text_lines.proofs.AppendFacts.{AppendsFront-nothing, AppendsFront-then, AppendsFront-cut, AppendsFront-each, Appends-at_err}
use Rattle.script_text.proofs.reply.append_count.Goals as goal

pub returns-in_err-append_spaced : goal.returns-in_err-append_spaced
returns-in_err-append_spaced c =
    Appends-at_err _ _ c.from_residual-in_err-append_spaced.ensures.1
    (AppendsFront-cut (10 ∷ [])
    (AppendsFront-each spaced (codes "count") c.args.counts.now c.loop-count.count-index 0 c.loop-count-test.true c.loop-count.invariant c.in_err-append_spaced.ensures))

pub returns-in_err-push : goal.returns-in_err-push
returns-in_err-push c =
    let whole = rw (take_all c.loop-count.count-index c.args.counts.now c.loop-count-test.false) at c.loop-count.invariant in
    Appends-at_err _ _ c.from_residual-in_err-push.ensures.1
    (AppendsFront-then (codes "count" ++ flat_map spaced c.args.counts.now) whole (AppendsFront-nothing (10 ∷ []) c.in_err-push.ensures.items))
