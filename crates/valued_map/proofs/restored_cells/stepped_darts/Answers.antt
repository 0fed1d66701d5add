use Rattle.std.proofs.Common.{ℕ, ◌⊎◌, ◌+◌, List, [], inl, inr, sym, take, subst, take_all, Contains}
use Rattle.map_defs.specs.LinkWords.{LinkWord}
use Rattle.map_defs.specs.Rows.{Rows}
use Rattle.machine_defs.specs.Difference.{Difference}
use Rattle.valued_map.specs.Changing.{AreAdded}
use Rattle.valued_map.specs.Ways.{IsNearOne, IsNearStep}
use Rattle.valued_map.proofs.Adding.{added-none, added-then, added-told}
use Rattle.valued_map.proofs.Heads.{among-more, among-none}
use Rattle.valued_map.proofs.restored_cells.stepped_darts.Goals as goal

pub loop-step-init : goal.loop-step-init
loop-step-init g c =
    subst (λ (xs : List ℕ). AreAdded c.args.links.now.rows (IsNearStep c.args.way (Contains c.args.words.now) c.args.links.now.rows (take 0 c.args.steps.now)) [] xs) (sym c.new-darts.ensures.items)
    (added-none c.args.links.now.rows (IsNearStep c.args.way (Contains c.args.words.now) c.args.links.now.rows (take 0 c.args.steps.now)) []
    (λ x w h. among-none c.args.steps.now w.0 w.1))

pub loop-step-preserved : goal.loop-step-preserved
loop-step-preserved g c =
    let rows : Rows = c.args.links.now.rows in
    let Words : LinkWord → Type 0 = Contains c.args.words.now in
    let xs : List Difference = c.args.steps.now in
    let k : ℕ = c.loop-step.step-index in
    let s : Difference = c.step-item.result in
    let added = c.in_ok-add_near.ensures in
    added-told rows (λ x. IsNearStep c.args.way Words rows (take k xs) x ⊎ IsNearOne c.args.way Words rows s x) (IsNearStep c.args.way Words rows (take (k + 1) xs)) [] c.add_near.new.darts.items
    (λ x w h. elim (among-more xs k s w.0 c.loop-step-test.true c.step-item.is w.1) [
      | inl before ↦ inl (w.0, before, w.2)
      | inr e ↦ inr (subst (λ (b : Difference). IsNearOne c.args.way Words rows b x) (sym e) w.2)
    ])
    (added-then rows (IsNearStep c.args.way Words rows (take k xs)) (IsNearOne c.args.way Words rows s) [] c.loop-step.darts.items
    c.add_near.new.darts.items c.loop-step.invariant added)

pub returns-clause-live : goal.returns-clause-live
returns-clause-live g c = λ x h. elim (c.loop-step.invariant.live x h) [
  | inl none ↦ absurd (among-none [] x none)
  | inr live ↦ live
]

pub returns-clause-all : goal.returns-clause-all
returns-clause-all g c =
    let kept = subst (λ (xs : List Difference). AreAdded c.args.links.now.rows (IsNearStep c.args.way (Contains c.args.words.now) c.args.links.now.rows xs) [] c.loop-step.darts.items)
    (take_all c.loop-step.step-index c.args.steps.now c.loop-step-test.false) c.loop-step.invariant in
    kept.all
