use Rattle.std.proofs.Common.{◌≡◌, ◌∙◌, length, slice_index, sym, ap, subst}
use Rattle.std.proofs.lemmas.Bool.{false≢true}
use Rattle.std.proofs.lemmas.List.{get_or_default}
use Rattle.map_defs.specs.Rows.{links_of}
use Rattle.map_defs.specs.Insertion.{IsJoining}
use Rattle.cell_edit.specs.Circles.{next_place}
use Rattle.cell_edit.proofs.PathSides.{closed-at}
use Rattle.cell_edit.proofs.path.is_closed.Goals as goal

pub returns-then-not-branch : goal.returns-then-not-branch
returns-then-not-branch g c =
    let one : c.index-path-place.result ≡ slice_index c.args.path.now c.loop-place.place =
    c.index-path-place.is ∙ get_or_default c.args.path.now c.loop-place.place c.index-path-place.result 0 c.loop-place-test.true in
    let next : c.index-path-next_place.result ≡ slice_index c.args.path.now (next_place (length c.args.path.now) c.loop-place.place) =
    c.index-path-next_place.is ∙ get_or_default c.args.path.now c.next_place.result c.index-path-next_place.result 0 c.next_place.ensures.within ∙ ap (slice_index c.args.path.now) c.next_place.ensures.next in (
      λ true. absurd (false≢true true),
      λ closed.
          let joining : IsJoining g.K.Kind.kind (links_of c.args.links.now.rows) c.index-path-place.result c.index-path-next_place.result =
          subst (λ u. IsJoining g.K.Kind.kind (links_of c.args.links.now.rows) u c.index-path-next_place.result) (sym one)
          (subst (IsJoining g.K.Kind.kind (links_of c.args.links.now.rows) (slice_index c.args.path.now c.loop-place.place)) (sym next)
          (closed-at g.K.Kind.kind (links_of c.args.links.now.rows) c.args.path.now closed c.loop-place.place c.loop-place-test.true)) in
          absurd (false≢true (sym c.if-not-branch.true ∙ c.in_ok-is_joining.ensures.1 joining)),
    )
