use Rattle.std.proofs.Common.{ℕ, ◌⊎◌, ◌+◌, ◌≤◌, ◌∙◌, List, Contains, inl, inr, sym, ap, take, subst, take_all, lit<, arith}
use Rattle.machine_defs.specs.Difference.{Difference, ValueChange}
use Rattle.label_laws.specs.Changing.{AreTaken}
use Rattle.label_laws.proofs.Taking.{taken-none, taken-as, taken-then}
use Rattle.valued_map.specs.Undoing.{IsValueChanged, IsRevalued}
use Rattle.valued_map.proofs.Heads.{among-more, among-before, among-here, among-none}
use Rattle.valued_map.proofs.restore.take_values.Goals as goal

pub take_changed-requires : goal.take_changed-requires
take_changed-requires g c =
    let s : Difference = c.step-item.result in
    let values = c.deref.ensures.value ∙ ap (λ (d : Difference). d.values) c.step.view_is in
    let here : Contains c.args.steps.now s = (c.loop-step.step-index, c.loop-step-test.true, sym c.step-item.is) in (
      lit< tt,
      subst (λ (cs : List ValueChange). ((i d : ℕ) → IsValueChanged cs i d → i ≤ g.row.DIM) × ((i d : ℕ) → IsValueChanged cs i d → d ≤ c.loop-step.labels.made)) (sym values)
          (λ i d h. c.requires.low i d (s, here, h), λ i d h. (let made = c.requires.made i d (s, here, h) in omega (arith, c.loop-step.invariant.made))),
    )

pub loop-step-init : goal.loop-step-init
loop-step-init g c = taken-none (IsRevalued (take 0 c.args.steps.now)) c.args.labels.now c.args.pool.now (λ i d h. among-none c.args.steps.now h.0 h.1)

pub loop-step-preserved : goal.loop-step-preserved
loop-step-preserved g c =
    let xs : List Difference = c.args.steps.now in
    let k : ℕ = c.loop-step.step-index in
    let s : Difference = c.step-item.result in
    let values = c.deref.ensures.value ∙ ap (λ (d : Difference). d.values) c.step.view_is in
    taken-as (λ i d. IsRevalued (take k xs) i d ⊎ IsValueChanged s.values i d) (IsRevalued (take (k + 1) xs)) c.args.labels.now c.take_changed.new.labels c.args.pool.now c.take_changed.new.pool
    (λ i d. (
      λ w. elim w [
        | inl before ↦ (before.0, among-before xs k s before.0 c.loop-step-test.true c.step-item.is before.1, before.2)
        | inr e ↦ (s, among-here xs k s c.loop-step-test.true c.step-item.is, e)
      ],
      λ w. elim (among-more xs k s w.0 c.loop-step-test.true c.step-item.is w.1) [
        | inl before ↦ inl (w.0, before, w.2)
        | inr e ↦ inr (subst (λ (y : Difference). IsValueChanged y.values i d) (sym e) w.2)
      ],
    ))
    (taken-then (IsRevalued (take k xs)) (IsValueChanged s.values) c.args.labels.now c.loop-step.labels c.take_changed.new.labels c.args.pool.now c.loop-step.pool c.take_changed.new.pool
    c.loop-step.invariant
    (subst (λ (cs : List ValueChange). AreTaken (IsValueChanged cs) c.loop-step.labels c.take_changed.new.labels c.loop-step.pool c.take_changed.new.pool) values c.take_changed.ensures))

pub returns : goal.returns
returns g c =
    subst (λ (xs : List Difference). AreTaken (IsRevalued xs) c.args.labels.now c.loop-step.labels c.args.pool.now c.loop-step.pool)
    (take_all c.loop-step.step-index c.args.steps.now c.loop-step-test.false) c.loop-step.invariant
