use Rattle.std.proofs.Common.{ℕ, ◌⊎◌, ◌+◌, List, Contains, inl, inr, sym, take, subst, take_all}
use Rattle.map_defs.specs.LinkWords.{LinkWord}
use Rattle.map_defs.specs.Rows.{Rows}
use Rattle.map_defs.specs.Edits.{Change}
use Rattle.valued_map.specs.Changing.{AreAdded}
use Rattle.valued_map.specs.Undoing.{IsNearChange}
use Rattle.valued_map.proofs.Adding.{added-none, added-then, added-told}
use Rattle.valued_map.proofs.Heads.{among-more, among-none}
use Rattle.valued_map.proofs.restored_cells.add_at_changes.Goals as goal

pub loop-change-init : goal.loop-change-init
loop-change-init g c =
    added-none c.args.links.now.rows (λ x. (b : Change) × Contains (take 0 c.args.changes.now) b × IsNearChange (Contains c.args.words.now) c.args.links.now.rows b x) c.args.darts.now.items
    (λ x w h. among-none c.args.changes.now w.0 w.1)

pub loop-change-preserved : goal.loop-change-preserved
loop-change-preserved g c =
    let rows : Rows = c.args.links.now.rows in
    let Words : LinkWord → Type 0 = Contains c.args.words.now in
    let xs : List Change = c.args.changes.now in
    let k : ℕ = c.loop-change.change-index in
    let d : Change = c.change-item.result in
    let added = c.in_ok-add_near_change.ensures in
    added-told rows (λ x. ((b : Change) × Contains (take k xs) b × IsNearChange Words rows b x) ⊎ IsNearChange Words rows d x)
    (λ x. (b : Change) × Contains (take (k + 1) xs) b × IsNearChange Words rows b x) c.args.darts.now.items c.add_near_change.new.darts.items
    (λ x w h. elim (among-more xs k d w.0 c.loop-change-test.true c.change-item.is w.1) [
      | inl before ↦ inl (w.0, before, w.2)
      | inr e ↦ inr (subst (λ (b : Change). IsNearChange Words rows b x) (sym e) w.2)
    ])
    (added-then rows (λ x. (b : Change) × Contains (take k xs) b × IsNearChange Words rows b x) (IsNearChange Words rows d) c.args.darts.now.items
    c.loop-change.darts.items c.add_near_change.new.darts.items c.loop-change.invariant added)

pub returns : goal.returns
returns g c =
    subst (λ (xs : List Change). AreAdded c.args.links.now.rows (λ x. (b : Change) × Contains xs b × IsNearChange (Contains c.args.words.now) c.args.links.now.rows b x) c.args.darts.now.items c.loop-change.darts.items)
    (take_all c.loop-change.change-index c.args.changes.now c.loop-change-test.false) c.loop-change.invariant
