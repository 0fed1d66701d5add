use Rattle.std.proofs.Common.{ℕ, ◌⊎◌, ◌+◌, ◌∙◌, List, inl, inr, sym, ap, take, subst, take_all}
use Rattle.map_defs.specs.Rows.{Rows}
use Rattle.machine_defs.specs.Difference.{Difference, ValueChange}
use Rattle.valued_map.specs.Changing.{AreAdded}
use Rattle.valued_map.specs.Undoing.{IsValueChanged, IsRevalued}
use Rattle.valued_map.proofs.Adding.{added-none, added-then, added-told}
use Rattle.valued_map.proofs.Heads.{among-more, among-none}
use Rattle.valued_map.proofs.restored_cells.add_revalued.Goals as goal

pub loop-step-init : goal.loop-step-init
loop-step-init g c =
    added-none c.args.links.now.rows (IsRevalued (take 0 c.args.steps.now) c.args.dim) c.args.darts.now.items
    (λ x w h. among-none c.args.steps.now w.0 w.1)

pub loop-step-preserved : goal.loop-step-preserved
loop-step-preserved g c =
    let rows : Rows = c.args.links.now.rows in
    let i : ℕ = c.args.dim in
    let xs : List Difference = c.args.steps.now in
    let k : ℕ = c.loop-step.step-index in
    let s : Difference = c.step-item.result in
    let values = c.deref.ensures.value ∙ ap (λ (d : Difference). d.values) c.step.view_is in
    let added = subst (λ (cs : List ValueChange). AreAdded rows (IsValueChanged cs i) c.loop-step.darts.items c.add_changed.new.darts.items) values c.in_ok-add_changed.ensures in
    added-told rows (λ x. IsRevalued (take k xs) i x ⊎ IsValueChanged s.values i x) (IsRevalued (take (k + 1) xs) i) c.args.darts.now.items c.add_changed.new.darts.items
    (λ x w h. elim (among-more xs k s w.0 c.loop-step-test.true c.step-item.is w.1) [
      | inl before ↦ inl (w.0, before, w.2)
      | inr e ↦ inr (subst (λ (b : Difference). IsValueChanged b.values i x) (sym e) w.2)
    ])
    (added-then rows (IsRevalued (take k xs) i) (IsValueChanged s.values i) c.args.darts.now.items c.loop-step.darts.items
    c.add_changed.new.darts.items c.loop-step.invariant added)

pub returns : goal.returns
returns g c =
    subst (λ (xs : List Difference). AreAdded c.args.links.now.rows (IsRevalued xs c.args.dim) c.args.darts.now.items c.loop-step.darts.items)
    (take_all c.loop-step.step-index c.args.steps.now c.loop-step-test.false) c.loop-step.invariant
