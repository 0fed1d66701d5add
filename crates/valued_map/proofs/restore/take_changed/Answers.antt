use Rattle.std.proofs.Common.{ℕ, ◌≡◌, ◌⊎◌, ◌+◌, ◌∙◌, List, Contains, inl, inr, refl, sym, ap, take, subst, take_all, lit<, arith}
use Rattle.machine_defs.specs.Difference.{ValueChange}
use Rattle.label_laws.specs.Changing.{AreTaken}
use Rattle.label_laws.proofs.Taking.{taken-none, taken-as, taken-then}
use Rattle.valued_map.specs.Undoing.{IsValueChanged}
use Rattle.valued_map.proofs.Heads.{among-more, among-before, among-here, among-none}
use Rattle.valued_map.proofs.restore.take_changed.Goals as goal

pub take_id-requires : goal.take_id-requires
take_id-requires g c =
    let d : ValueChange = c.change-item.result in
    let here : Contains c.args.changes.now d = (c.loop-change.change-index, c.loop-change-test.true, sym c.change-item.is) in
    let dim : c.change.inside.dim ≡ d.dim = ap (λ (b : ValueChange). b.dim) c.change.view_is in
    let dart : c.change.inside.dart ≡ d.dart = ap (λ (b : ValueChange). b.dart) c.change.view_is in
    let low = c.requires.low d.dim d.dart (d, here, refl, refl) in
    let made = c.requires.made d.dim d.dart (d, here, refl, refl) in
    (lit< tt, (omega (arith, low, dim), omega (arith, made, dart, c.loop-change.invariant.made)))

pub loop-change-init : goal.loop-change-init
loop-change-init g c = taken-none (IsValueChanged (take 0 c.args.changes.now)) c.args.labels.now c.args.pool.now (λ i d h. among-none c.args.changes.now h.0 h.1)

pub loop-change-preserved : goal.loop-change-preserved
loop-change-preserved g c =
    let xs : List ValueChange = c.args.changes.now in
    let k : ℕ = c.loop-change.change-index in
    let b : ValueChange = c.change-item.result in
    let dim : c.change.inside.dim ≡ b.dim = ap (λ (y : ValueChange). y.dim) c.change.view_is in
    let dart : c.change.inside.dart ≡ b.dart = ap (λ (y : ValueChange). y.dart) c.change.view_is in
    taken-as (λ i d. IsValueChanged (take k xs) i d ⊎ ((i ≡ c.change.inside.dim) × (d ≡ c.change.inside.dart))) (IsValueChanged (take (k + 1) xs)) c.args.labels.now c.take_id.new.labels c.args.pool.now c.take_id.new.pool
    (λ i d. (
      λ w. elim w [
        | inl before ↦ (before.0, among-before xs k b before.0 c.loop-change-test.true c.change-item.is before.1, before.2, before.3)
        | inr e ↦ (b, among-here xs k b c.loop-change-test.true c.change-item.is, sym (e.0 ∙ dim), sym (e.1 ∙ dart))
      ],
      λ w. elim (among-more xs k b w.0 c.loop-change-test.true c.change-item.is w.1) [
        | inl before ↦ inl (w.0, before, w.2, w.3)
        | inr e ↦ inr (sym (dim ∙ ap (λ (y : ValueChange). y.dim) e ∙ w.2), sym (dart ∙ ap (λ (y : ValueChange). y.dart) e ∙ w.3))
      ],
    ))
    (taken-then (IsValueChanged (take k xs)) (λ i d. (i ≡ c.change.inside.dim) × (d ≡ c.change.inside.dart)) c.args.labels.now c.loop-change.labels c.take_id.new.labels c.args.pool.now c.loop-change.pool c.take_id.new.pool
    c.loop-change.invariant c.take_id.ensures)

pub returns : goal.returns
returns g c =
    subst (λ (xs : List ValueChange). AreTaken (IsValueChanged xs) c.args.labels.now c.loop-change.labels c.args.pool.now c.loop-change.pool)
    (take_all c.loop-change.change-index c.args.changes.now c.loop-change-test.false) c.loop-change.invariant
