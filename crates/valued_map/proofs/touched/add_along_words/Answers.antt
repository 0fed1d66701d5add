use Rattle.std.proofs.Common.{◌⊎◌, ◌+◌, ℕ, List, Contains, lit<, inl, inr, sym, take, subst, take_all}
use Rattle.map_defs.specs.LinkWords.{LinkWord}
use Rattle.map_defs.specs.Rows.{Rows}
use Rattle.map_defs.specs.Edits.{Change, Edit}
use Rattle.valued_map.specs.Changing.{AreAdded, IsUnsettledAt}
use Rattle.valued_map.proofs.Adding.{added-none, added-then, added-told}
use Rattle.valued_map.proofs.Heads.{among-more, among-none}
use Rattle.valued_map.proofs.touched.add_along_words.Goals as goal

pub add_along-requires : goal.add_along-requires
add_along-requires g c =
    (lit< tt, (lit< tt, (c.requires.low, (c.requires.sound, (c.requires.older, (c.requires.live, (c.requires.words, (c.loop-word.word-index, c.loop-word-test.true, sym c.word-item.is))))))))

pub loop-word-init : goal.loop-word-init
loop-word-init g c =
    added-none c.args.links.now.rows (λ x. (w : LinkWord) × Contains (take 0 c.args.words.now) w × IsUnsettledAt g.K.Kind.kind g.row.DIM c.args.edit.now c.args.links.now.rows c.args.dim c.args.labels.now w c.args.change x)
    c.args.touched.now.items (λ x w h. among-none c.args.words.now w.0 w.1)

pub loop-word-preserved : goal.loop-word-preserved
loop-word-preserved g c =
    let rows : Rows = c.args.links.now.rows in
    let k = g.K.Kind.kind in
    let e : Edit = c.args.edit.now in
    let b : Change = c.args.change in
    let ws : List LinkWord = c.args.words.now in
    let j : ℕ = c.loop-word.word-index in
    let v : LinkWord = c.word-item.result in
    added-told rows (λ x. ((w : LinkWord) × Contains (take j ws) w × IsUnsettledAt k g.row.DIM e rows c.args.dim c.args.labels.now w b x) ⊎ IsUnsettledAt k g.row.DIM e rows c.args.dim c.args.labels.now v b x)
    (λ x. (w : LinkWord) × Contains (take (j + 1) ws) w × IsUnsettledAt k g.row.DIM e rows c.args.dim c.args.labels.now w b x) c.args.touched.now.items c.add_along.new.touched.items
    (λ x w h. elim (among-more ws j v w.0 c.loop-word-test.true c.word-item.is w.1) [
      | inl before ↦ inl (w.0, before, w.2)
      | inr same ↦ inr (subst (λ (u : LinkWord). IsUnsettledAt k g.row.DIM e rows c.args.dim c.args.labels.now u b x) (sym same) w.2)
    ])
    (added-then rows (λ x. (w : LinkWord) × Contains (take j ws) w × IsUnsettledAt k g.row.DIM e rows c.args.dim c.args.labels.now w b x) (IsUnsettledAt k g.row.DIM e rows c.args.dim c.args.labels.now v b) c.args.touched.now.items
    c.loop-word.touched.items c.add_along.new.touched.items c.loop-word.invariant c.in_ok-add_along.ensures)

pub returns : goal.returns
returns g c =
    subst (λ (ws : List LinkWord). AreAdded c.args.links.now.rows
    (λ x. (w : LinkWord) × Contains ws w × IsUnsettledAt g.K.Kind.kind g.row.DIM c.args.edit.now c.args.links.now.rows c.args.dim c.args.labels.now w c.args.change x) c.args.touched.now.items c.loop-word.touched.items)
    (take_all c.loop-word.word-index c.args.words.now c.loop-word-test.false) c.loop-word.invariant
