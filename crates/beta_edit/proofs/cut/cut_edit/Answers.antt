use Rattle.std.proofs.Common.{ℕ, ◌≡◌, ◌≢◌, ◌+◌, ◌<◌, List, length, take, get_or, slice_index, sym, ap, ◌∙◌, subst, lit<, arith}
use Rattle.map_defs.specs.Rows.{links_of}
use Rattle.sewing.specs.Triples.{Triple, Lists}
use Rattle.cell_edit.specs.Stars.{star_of}
use Rattle.cell_edit.proofs.Appending.{appends-same}
use Rattle.cell_edit.proofs.CornerList.{corners-skip}
use Rattle.beta_edit.specs.Cutting.{cut_link, IsAroundEntry, IsOldTurnEntry, IsNewTurnEntry}
use Rattle.beta_edit.proofs.AddedRows.{grown-skip, grown-more, grown-all}
use Rattle.beta_edit.proofs.GrowthFacts.{star-place, fresh-free}
use Rattle.beta_edit.proofs.CutEntries.{corner-low, corner-next, corner-done}
use Rattle.beta_edit.proofs.CutEdit.{turns-apart, turn-made}
use Rattle.beta_edit.proofs.cut.cut_edit.Goals as goal

pub loop-pair-preserved-then-pair-ne0 : goal.loop-pair-preserved-then-pair-ne0
loop-pair-preserved-then-pair-ne0 g c =
    let L = links_of c.args.links.now.rows in
    let stars = c.args.stars.now in
    let star = star_of stars in
    let pairs : List Triple = c.args.pairs.now in
    let q : Triple = c.pair-item.result in
    let other : q.t ≢ 0 = λ zero. c.if-pair-ne0.true (ap (λ (p : Triple). p.t) c.pair.view_is ∙ zero) in (
      grown-skip L (IsOldTurnEntry L star) (IsNewTurnEntry L star) pairs (stars.made + 1) (g.row.DIM + 1) c.loop-pair.pair-index c.loop-pair.place q c.loop-pair.changes.items c.loop-pair.born
          c.loop-pair-test.true c.pair-item.is c.loop-pair.invariant.0 (λ d t y e. other e.0) (λ d t y e. other e.0),
      corners-skip pairs c.requires.turns.ascending c.loop-pair.pair-index q (take c.loop-pair.place stars.keys) c.loop-pair-test.true c.pair-item.is c.loop-pair.invariant.1 other,
      c.loop-pair.invariant.2,
      c.loop-pair.invariant.3,
    )

pub star_at-requires : goal.star_at-requires
star_at-requires g c =
    let pairs : List Triple = c.args.pairs.now in
    let q : Triple = record { x = c.pair.inside.x; y = c.pair.inside.y; t = c.pair.inside.t } in
    let at : q ≡ get_or pairs c.loop-pair.pair-index q = subst (λ (p : Triple). p ≡ get_or pairs c.loop-pair.pair-index p) (sym c.pair.view_is) c.pair-item.is in
    corner-low c.args.stars.now.keys pairs c.requires.turns.grow.rising c.requires.turns.ascending c.requires.turns.corners c.loop-pair.place c.loop-pair.pair-index q
    c.loop-pair-test.true at c.if-pair-ne0.false c.loop-pair.invariant.1

pub push_corner-requires : goal.push_corner-requires
push_corner-requires g c =
    let pairs : List Triple = c.args.pairs.now in
    let turns = c.requires.turns in
    let q : Triple = record { x = c.pair.inside.x; y = c.pair.inside.y; t = c.pair.inside.t } in
    let at : q ≡ get_or pairs c.loop-pair.pair-index q = subst (λ (p : Triple). p ≡ get_or pairs c.loop-pair.pair-index p) (sym c.pair.view_is) c.pair-item.is in
    let has : Lists pairs q.x q.y q.t = (c.loop-pair.pair-index, c.loop-pair-test.true, sym at) in
    let low : c.loop-pair.place < length c.args.stars.now.keys = corner-low c.args.stars.now.keys pairs turns.grow.rising turns.ascending turns.corners c.loop-pair.place c.loop-pair.pair-index q
    c.loop-pair-test.true at c.if-pair-ne0.false c.loop-pair.invariant.1 in
    let grown = c.loop-pair.invariant.0 in
    (lit< tt, (turns.turn q.x q.y (rw c.if-pair-ne0.false at has), (turns.grow, (c.requires.laws, (omega (arith, low, c.loop-pair.invariant.2, c.loop-pair.invariant.3), (grown.wide, omega (arith, low, grown.begins, grown.long, c.first.ensures.first, c.first.ensures.few)))))))

pub loop-pair-preserved : goal.loop-pair-preserved
loop-pair-preserved g c =
    let rows = c.args.links.now.rows in
    let L = links_of rows in
    let stars = c.args.stars.now in
    let star = star_of stars in
    let keys : List ℕ = stars.keys in
    let pairs : List Triple = c.args.pairs.now in
    let turns = c.requires.turns in
    let p : ℕ = c.loop-pair.place in
    let i : ℕ = c.loop-pair.pair-index in
    let q : Triple = record { x = c.pair.inside.x; y = c.pair.inside.y; t = c.pair.inside.t } in
    let at : q ≡ get_or pairs i q = subst (λ (u : Triple). u ≡ get_or pairs i u) (sym c.pair.view_is) c.pair-item.is in
    let low : p < length keys = corner-low keys pairs turns.grow.rising turns.ascending turns.corners p i q c.loop-pair-test.true at c.if-pair-ne0.false c.loop-pair.invariant.1 in
    let one : slice_index keys p ≡ q.x = corner-next keys pairs turns.grow.rising turns.ascending turns.corners p i q c.loop-pair-test.true at c.if-pair-ne0.false c.loop-pair.invariant.1 in
    let new : c.star_at.result ≡ star q.x = c.star_at.ensures.star ∙ ap star one in (
      grown-more L (IsOldTurnEntry L star) (IsNewTurnEntry L star) pairs (stars.made + 1) (g.row.DIM + 1) i p q c.loop-pair.changes.items c.loop-pair.born c.loop-pair-test.true at c.loop-pair.invariant.0
          (cut_link L star q.x q.y) (star q.x) c.push_corner.new.changes.items c.push_corner.new.born
          (star-place g.row.DIM rows c.dimension.ensures.sound stars turns.grow p q.x low one)
          (λ u has. turns-apart g.row.DIM rows c.dimension.ensures.sound c.dimension.ensures.low c.requires.laws stars pairs turns i q u c.loop-pair-test.true at has)
          (appends-same L (IsAroundEntry L (star q.x) q.x q.y) (IsOldTurnEntry L star q) c.loop-pair.changes.items c.push_corner.new.changes.items
          (λ d t y. ((λ e. (c.if-pair-ne0.false, e)), λ e. e.1)) (rw new at c.in_ok-push_corner.ensures.entries))
          c.in_ok-push_corner.ensures.row
          (λ d t y. ((λ e. (c.if-pair-ne0.false, e)), λ e. e.1)),
      corner-done keys pairs turns.grow.rising turns.ascending turns.corners p i q c.loop-pair-test.true at c.if-pair-ne0.false c.loop-pair.invariant.1,
      omega (arith, c.in_ok-push_corner.ensures.long, c.loop-pair.invariant.2),
      rw c.in_ok-push_corner.ensures.capacity c.loop-pair.invariant.3,
    )

pub returns : goal.returns
returns g c =
    let rows = c.args.links.now.rows in
    let L = links_of rows in
    let stars = c.args.stars.now in
    let star = star_of stars in
    let pairs : List Triple = c.args.pairs.now in record {
      births = c.births-births.ensures;
      deaths = c.new.ensures.items;
      writes = grown-all L (IsOldTurnEntry L star) (IsNewTurnEntry L star) pairs (stars.made + 1) (g.row.DIM + 1) c.loop-pair.pair-index c.loop-pair.place c.loop-pair.changes.items c.loop-pair.born
          c.loop-pair-test.false (fresh-free g.row.DIM rows c.dimension.ensures.sound stars c.requires.turns.grow)
          (turn-made g.row.DIM rows c.dimension.ensures.sound c.dimension.ensures.low c.requires.laws stars pairs c.requires.turns)
          c.loop-pair.invariant.0;
    }
