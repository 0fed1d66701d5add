use Rattle.std.proofs.Common.{ℕ, ◌⊎◌, ◌+◌, List, Contains, lit<, inl, inr, sym, take, subst, take_all}
use Rattle.map_defs.specs.LinkWords.{LinkWord}
use Rattle.map_defs.specs.Rows.{Rows}
use Rattle.map_defs.specs.Edits.{Change}
use Rattle.valued_map.specs.Changing.{AreAdded}
use Rattle.valued_map.specs.Undoing.{IsNearAlong, IsNearChange}
use Rattle.valued_map.proofs.Adding.{added-none, added-then, added-told}
use Rattle.valued_map.proofs.Heads.{among-more, among-none}
use Rattle.valued_map.proofs.near.add_near_change.Goals as goal

pub add_near_along-requires : goal.add_near_along-requires
add_near_along-requires g c =
    let word = c.requires.words c.word-item.result (c.loop-word.word-index, c.loop-word-test.true, sym c.word-item.is) in
    (lit< tt, (c.requires.low, (c.requires.sound, word)))

pub loop-word-init : goal.loop-word-init
loop-word-init g c =
    added-none c.args.links.now.rows (IsNearChange (Contains (take 0 c.args.words.now)) c.args.links.now.rows c.args.change) c.args.darts.now.items
    (λ x w h. among-none c.args.words.now w.0 w.1)

pub loop-word-preserved : goal.loop-word-preserved
loop-word-preserved g c =
    let rows : Rows = c.args.links.now.rows in
    let ws : List LinkWord = c.args.words.now in
    let k : ℕ = c.loop-word.word-index in
    let v : LinkWord = c.word-item.result in
    let b : Change = c.args.change in
    added-told rows (λ x. IsNearChange (Contains (take k ws)) rows b x ⊎ IsNearAlong rows v b x) (IsNearChange (Contains (take (k + 1) ws)) rows b) c.args.darts.now.items c.add_near_along.new.darts.items
    (λ x w h. elim (among-more ws k v w.0 c.loop-word-test.true c.word-item.is w.1) [
      | inl before ↦ inl (w.0, before, w.2)
      | inr same ↦ inr (subst (λ (u : LinkWord). IsNearAlong rows u b x) (sym same) w.2)
    ])
    (added-then rows (IsNearChange (Contains (take k ws)) rows b) (IsNearAlong rows v b) c.args.darts.now.items
    c.loop-word.darts.items c.add_near_along.new.darts.items c.loop-word.invariant c.in_ok-add_near_along.ensures)

pub returns : goal.returns
returns g c =
    subst (λ (ws : List LinkWord). AreAdded c.args.links.now.rows (IsNearChange (Contains ws) c.args.links.now.rows c.args.change) c.args.darts.now.items c.loop-word.darts.items)
    (take_all c.loop-word.word-index c.args.words.now c.loop-word-test.false) c.loop-word.invariant
