use Rattle.std.proofs.Common.{◌≡◌, ◌∙◌, length, slice_index, sym, ap, subst, lit<, arith}
use Rattle.std.proofs.lemmas.List.{get_or_default}
use Rattle.map_defs.specs.Rows.{links_of}
use Rattle.map_defs.specs.Insertion.{IsJoining}
use Rattle.cell_edit.specs.Circles.{next_place}
use Rattle.cell_edit.proofs.PathSides.{seeds-more, seeds-all, closed-at}
use Rattle.cell_edit.proofs.path.face_seeds.Goals as goal

pub side_seed-requires : goal.side_seed-requires
side_seed-requires g c =
    let one : c.index-path-place.result ≡ slice_index c.args.path.now c.loop-place.place =
    c.index-path-place.is ∙ get_or_default c.args.path.now c.loop-place.place c.index-path-place.result 0 c.loop-place-test.true in
    let next : c.index-path-next_place.result ≡ slice_index c.args.path.now (next_place (length c.args.path.now) c.loop-place.place) =
    c.index-path-next_place.is ∙ get_or_default c.args.path.now c.next_place.result c.index-path-next_place.result 0 c.next_place.ensures.within ∙ ap (slice_index c.args.path.now) c.next_place.ensures.next in (
      lit< tt,
      subst (λ u. IsJoining g.K.Kind.kind (links_of c.args.links.now.rows) u c.index-path-next_place.result) (sym one)
          (subst (IsJoining g.K.Kind.kind (links_of c.args.links.now.rows) (slice_index c.args.path.now c.loop-place.place)) (sym next)
          (closed-at g.K.Kind.kind (links_of c.args.links.now.rows) c.args.path.now c.requires c.loop-place.place c.loop-place-test.true)),
    )

pub loop-place-preserved : goal.loop-place-preserved
loop-place-preserved g c =
    let one : c.index-path-place.result ≡ slice_index c.args.path.now c.loop-place.place =
    c.index-path-place.is ∙ get_or_default c.args.path.now c.loop-place.place c.index-path-place.result 0 c.loop-place-test.true in
    let next : c.index-path-next_place.result ≡ slice_index c.args.path.now (next_place (length c.args.path.now) c.loop-place.place) =
    c.index-path-next_place.is ∙ get_or_default c.args.path.now c.next_place.result c.index-path-next_place.result 0 c.next_place.ensures.within ∙ ap (slice_index c.args.path.now) c.next_place.ensures.next in
    rw c.in_ok-push.ensures.items
    (seeds-more g.K.Kind.kind (links_of c.args.links.now.rows) c.args.path.now c.loop-place.place c.side_seed.result c.loop-place.seeds.items
    (rw (one, next) at c.side_seed.ensures) c.loop-place.invariant)

pub returns : goal.returns
returns g c = λ x y t.
    let all = seeds-all g.K.Kind.kind (links_of c.args.links.now.rows) c.args.path.now c.loop-place.place (omega arith) x y t in
    let same = c.loop-place.invariant x y t in
    (λ has. all.0 (same.0 has), λ seed. same.1 (all.1 seed))
