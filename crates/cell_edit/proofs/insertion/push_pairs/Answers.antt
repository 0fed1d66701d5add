use Rattle.std.proofs.Common.{◌≡◌, ◌++◌, ◌∷◌, [], get_or, Contains, sym, ap, ◌∙◌, subst, arith}
use Rattle.sewing.specs.Triples.{Triple, Lists}
use Rattle.cell_edit.specs.Stars.{star_of}
use Rattle.cell_edit.proofs.PairEntries.{pairs-more, firsts-rise}
use Rattle.cell_edit.proofs.insertion.push_pairs.Goals as goal

pub place_from-place-requires-clause-key : goal.place_from-place-requires-clause-key
place_from-place-requires-clause-key c =
    let has : Lists c.args.pairs.now c.pair-item.result.x c.pair-item.result.y c.pair-item.result.t = (c.loop-pair.pair-index, c.loop-pair-test.true, sym c.pair-item.is) in
    subst (Contains c.args.stars.now.keys) (sym (ap (λ (q : Triple). q.x) c.pair.view_is)) (c.requires.among c.pair-item.result.x c.pair-item.result.y c.pair-item.result.t has).0

pub star-requires : goal.star-requires
star-requires c =
    let has : Lists c.args.pairs.now c.pair-item.result.x c.pair-item.result.y c.pair-item.result.t = (c.loop-pair.pair-index, c.loop-pair-test.true, sym c.pair-item.is) in
    subst (Contains c.args.stars.now.keys) (sym (ap (λ (q : Triple). q.y) c.pair.view_is)) (c.requires.among c.pair-item.result.x c.pair-item.result.y c.pair-item.result.t has).1

pub loop-pair-preserved : goal.loop-pair-preserved
loop-pair-preserved c =
    let q : Triple = record { x = c.pair.inside.x; y = c.pair.inside.y; t = c.pair.inside.t } in
    let at : q ≡ get_or c.args.pairs.now c.loop-pair.pair-index q = subst (λ (p : Triple). p ≡ get_or c.args.pairs.now c.loop-pair.pair-index p) (sym c.pair.view_is) c.pair-item.is in
    let grown : c.push_reserved.new.self.items ≡ c.loop-pair.changes.items ++ record { dart = star_of c.args.stars.now q.x; link = q.t; old = 0; new = star_of c.args.stars.now q.y } ∷ [] =
    rw (c.joining.ensures, c.star_at.ensures.star, c.place_from-place.ensures.place, c.star.ensures.star) at c.push_reserved.ensures.items in (
      pairs-more (star_of c.args.stars.now) c.args.pairs.now c.loop-pair.pair-index q c.args.changes.now.items c.loop-pair.changes.items c.push_reserved.new.self.items
          c.loop-pair-test.true at c.loop-pair.invariant.0 grown,
      c.push_reserved.ensures.capacity ∙ c.loop-pair.invariant.1,
      omega (arith, c.push_reserved.ensures.len, c.loop-pair.invariant.2),
      firsts-rise c.args.stars.now.keys c.args.pairs.now c.loop-pair.pair-index q c.place_from-place.result c.requires.ascending c.loop-pair-test.true at c.place_from-place.ensures.before,
    )
