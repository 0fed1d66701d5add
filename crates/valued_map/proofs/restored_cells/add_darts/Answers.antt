use Rattle.std.proofs.Common.{ℕ, ◌≡◌, ◌⊎◌, ◌+◌, List, Contains, inl, inr, sym, take, subst, take_all}
use Rattle.map_defs.specs.Rows.{Rows}
use Rattle.valued_map.specs.Changing.{AreAdded}
use Rattle.valued_map.proofs.Adding.{added-none, added-then, added-told}
use Rattle.valued_map.proofs.Heads.{among-more, among-none}
use Rattle.valued_map.proofs.restored_cells.add_darts.Goals as goal

pub loop-dart-init : goal.loop-dart-init
loop-dart-init g c =
    added-none c.args.links.now.rows (Contains (take 0 c.args.ended.now)) c.args.darts.now.items (λ x w h. among-none c.args.ended.now x w)

pub loop-dart-preserved : goal.loop-dart-preserved
loop-dart-preserved g c =
    let rows : Rows = c.args.links.now.rows in
    let xs : List ℕ = c.args.ended.now in
    let k : ℕ = c.loop-dart.dart-index in
    let d : ℕ = c.dart-item.result in
    let added = rw c.number.ensures.same at c.in_ok-add_live.ensures in
    added-told rows (λ x. Contains (take k xs) x ⊎ (x ≡ d)) (Contains (take (k + 1) xs)) c.args.darts.now.items c.add_live.new.touched.items
    (λ x w h. elim (among-more xs k d x c.loop-dart-test.true c.dart-item.is w) [ inl before ↦ inl before | inr e ↦ inr (sym e) ])
    (added-then rows (Contains (take k xs)) (λ x. x ≡ d) c.args.darts.now.items c.loop-dart.darts.items c.add_live.new.touched.items c.loop-dart.invariant added)

pub returns : goal.returns
returns g c =
    subst (λ (xs : List ℕ). AreAdded c.args.links.now.rows (Contains xs) c.args.darts.now.items c.loop-dart.darts.items)
    (take_all c.loop-dart.dart-index c.args.ended.now c.loop-dart-test.false) c.loop-dart.invariant
