use Rattle.std.proofs.Common.{List, ℕ, [], ◌∷◌, ◌++◌, codes}
use Rattle.std.specs.List.{flat_map}
use Rattle.std.proofs.lemmas.List.{take_all}
use Rattle.machine_defs.specs.Text.{spaced}
use Rattle.text_lines.proofs.AppendFacts.{AppendsFront-nothing, AppendsFront-then, AppendsFront-cut, AppendsFront-each, Appends-at_err}
use Rattle.map_run.proofs.half.FromLineTextLine.append_to.Goals as goal

pub returns-in_err-append_spaced : goal.returns-in_err-append_spaced
returns-in_err-append_spaced c =
    let darts : List ℕ = c.deref-dart-items.result.now in
    let part = rw (c.number.ensures.same, c.dart-item.is) at c.in_err-append_spaced.ensures in
    rw (← c.deref-dart-items.ensures.value)
    (Appends-at_err _ _ c.from_residual-in_err-append_spaced.ensures.1
    (AppendsFront-cut (10 ∷ []) (AppendsFront-each spaced (codes "from") darts c.loop-dart.dart-index c.dart-item.result c.loop-dart-test.true c.loop-dart.invariant part)))

pub returns-in_err-push : goal.returns-in_err-push
returns-in_err-push c =
    let darts : List ℕ = c.deref-dart-items.result.now in
    let whole = rw (take_all c.loop-dart.dart-index darts c.loop-dart-test.false) at c.loop-dart.invariant in
    rw (← c.deref-dart-items.ensures.value)
    (Appends-at_err _ _ c.from_residual-in_err-push.ensures.1
    (AppendsFront-then (codes "from" ++ flat_map spaced darts) whole (AppendsFront-nothing (10 ∷ []) c.in_err-push.ensures.items)))
