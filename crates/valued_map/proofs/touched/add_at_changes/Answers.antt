use Rattle.std.proofs.Common.{ℕ, ◌⊎◌, ◌+◌, ◌≤◌, List, take, Contains, lit<, inl, inr, sym, subst, take_all}
use Rattle.map_defs.specs.LinkWords.{LinkWord}
use Rattle.map_defs.specs.Rows.{Rows, IsLive, made}
use Rattle.map_defs.specs.Edits.{Change, Edit}
use Rattle.store_defs.specs.Labelings.{Labeling}
use Rattle.valued_map.specs.Changing.{AreAdded, IsUnsettledAt, IsUnsettledOf}
use Rattle.valued_map.proofs.Adding.{added-none, added-then, added-told}
use Rattle.valued_map.proofs.Heads.{among-more, among-none}
use Rattle.valued_map.proofs.touched.add_at_changes.Goals as goal

pub add_at_change-requires : goal.add_at_change-requires
add_at_change-requires g c = (lit< tt, (lit< tt, (c.requires.low, (c.requires.sound, (c.requires.older, c.requires.words)))))

pub loop-change-init : goal.loop-change-init
loop-change-init g c =
    added-none c.args.links.now.rows (λ x. (b : Change) × Contains (take 0 c.args.changes.now) b × IsUnsettledOf g.K.Kind.kind g.row.DIM c.args.edit.now c.args.links.now.rows c.args.dim c.args.labels.now b x)
    c.args.touched.now.items (λ x w h. among-none c.args.changes.now w.0 w.1)

pub loop-change-preserved : goal.loop-change-preserved
loop-change-preserved g c =
    let rows : Rows = c.args.links.now.rows in
    let k = g.K.Kind.kind in
    let e : Edit = c.args.edit.now in
    let cs : List Change = c.args.changes.now in
    let ids : Labeling = c.args.labels.now in
    let dim : ℕ = c.args.dim in
    let words : List LinkWord = c.args.words.now in
    let j : ℕ = c.loop-change.change-index in
    let b : Change = c.change-item.result in
    let here = added-told rows (λ x. (b.dart + e.births ≤ made rows) × IsLive rows b.dart × ((w : LinkWord) × Contains words w × IsUnsettledAt k g.row.DIM e rows dim ids w b x))
    (IsUnsettledOf k g.row.DIM e rows dim ids b) c.loop-change.touched.items c.add_at_change.new.touched.items
    (λ x (stays, live, (w, is, at)) _. (stays, live, (w, (c.requires.words w).1 is, at))) c.in_ok-add_at_change.ensures in
    added-told rows (λ x. ((a : Change) × Contains (take j cs) a × IsUnsettledOf k g.row.DIM e rows dim ids a x) ⊎ IsUnsettledOf k g.row.DIM e rows dim ids b x)
    (λ x. (a : Change) × Contains (take (j + 1) cs) a × IsUnsettledOf k g.row.DIM e rows dim ids a x) c.args.touched.now.items c.add_at_change.new.touched.items
    (λ x w h. elim (among-more cs j b w.0 c.loop-change-test.true c.change-item.is w.1) [
      | inl before ↦ inl (w.0, before, w.2)
      | inr same ↦ inr (subst (λ (a : Change). IsUnsettledOf k g.row.DIM e rows dim ids a x) (sym same) w.2)
    ])
    (added-then rows (λ x. (a : Change) × Contains (take j cs) a × IsUnsettledOf k g.row.DIM e rows dim ids a x) (IsUnsettledOf k g.row.DIM e rows dim ids b) c.args.touched.now.items
    c.loop-change.touched.items c.add_at_change.new.touched.items c.loop-change.invariant here)

pub returns : goal.returns
returns g c =
    subst (λ (cs : List Change). AreAdded c.args.links.now.rows
    (λ x. (a : Change) × Contains cs a × IsUnsettledOf g.K.Kind.kind g.row.DIM c.args.edit.now c.args.links.now.rows c.args.dim c.args.labels.now a x) c.args.touched.now.items c.loop-change.touched.items)
    (take_all c.loop-change.change-index c.args.changes.now c.loop-change-test.false) c.loop-change.invariant
