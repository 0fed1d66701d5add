use Rattle.std.proofs.Common.{◌≡◌, ◌≢◌, ℕ, ◌+◌, ◌<◌, List, ◌∷◌, length, get_or, drop, None, is_some, sym, ap, ◌∙◌, arith}
use Rattle.std.proofs.lemmas.List.{drop_more, get_or_read, get_or-set_other}
use Rattle.map_defs.specs.Edits.{buried}
use Rattle.link_rows.proofs.steps.bury.Goals as goal

pub loop-dart-preserved : goal.loop-dart-preserved
loop-dart-preserved g c =
    let ds : List ℕ = c.args.darts.now in
    let i : ℕ = c.loop-dart.dart-index in
    let x : ℕ = c.dart-item.result in
    let within : i < length ds = omega arith in
    let split : drop i ds ≡ x ∷ drop (i + 1) ds = drop_more ds i x within ∙ ap (λ (y : ℕ). y ∷ drop (i + 1) ds) (sym c.dart-item.is) in
    let kept = c.loop-dart.invariant in
    let room = c.loop-dart.invariant.2 in
    rw c.bury.ensures (
      sym (ap (λ (l : List ℕ). buried l c.loop-dart.rows.rows) split) ∙ kept.0,
      kept.1,
      omega arith,
      λ k d low high.
          let other : get_or ds k d ≢ x = λ same. c.requires.once i k d (omega arith) high (sym (get_or_read ds i x within c.dart-item.is d) ∙ sym same) in
          ap is_some (get_or-set_other c.loop-dart.rows.rows x (get_or ds k d) None None other) ∙ kept.3 k d (omega arith) high,
    )
