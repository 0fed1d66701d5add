use Rattle.std.proofs.Common.{ℕ, ◌≡◌, ◌⊎◌, ◌+◌, List, inl, inr, sym, take, subst, take_all}
use Rattle.map_defs.specs.Rows.{Rows}
use Rattle.machine_defs.specs.Difference.{ValueChange}
use Rattle.valued_map.specs.Changing.{AreAdded}
use Rattle.valued_map.specs.Undoing.{IsValueChanged}
use Rattle.valued_map.proofs.Adding.{added-none, added-then, added-told}
use Rattle.valued_map.proofs.Heads.{among-more, among-none}
use Rattle.valued_map.proofs.restored_cells.add_changed.Goals as goal

pub loop-change-init : goal.loop-change-init
loop-change-init g c =
    added-none c.args.links.now.rows (IsValueChanged (take 0 c.args.changes.now) c.args.dim) c.args.darts.now.items
    (λ x w h. among-none c.args.changes.now w.0 w.1)

pub loop-change-preserved : goal.loop-change-preserved
loop-change-preserved g c =
    let rows : Rows = c.args.links.now.rows in
    let i : ℕ = c.args.dim in
    let xs : List ValueChange = c.args.changes.now in
    let k : ℕ = c.loop-change.change-index in
    let d : ValueChange = c.change-item.result in
    added-told rows (λ x. IsValueChanged (take k xs) i x ⊎ ((d.dim ≡ i) × (d.dart ≡ x))) (IsValueChanged (take (k + 1) xs) i) c.args.darts.now.items c.add_one_changed.new.darts.items
    (λ x w h. elim (among-more xs k d w.0 c.loop-change-test.true c.change-item.is w.1) [
      | inl before ↦ inl (w.0, before, w.2, w.3)
      | inr e ↦ inr (subst (λ (b : ValueChange). (b.dim ≡ i) × (b.dart ≡ x)) (sym e) (w.2, w.3))
    ])
    (added-then rows (IsValueChanged (take k xs) i) (λ x. (d.dim ≡ i) × (d.dart ≡ x)) c.args.darts.now.items c.loop-change.darts.items
    c.add_one_changed.new.darts.items c.loop-change.invariant c.in_ok-add_one_changed.ensures)

pub returns : goal.returns
returns g c =
    subst (λ (xs : List ValueChange). AreAdded c.args.links.now.rows (IsValueChanged xs c.args.dim) c.args.darts.now.items c.loop-change.darts.items)
    (take_all c.loop-change.change-index c.args.changes.now c.loop-change-test.false) c.loop-change.invariant
