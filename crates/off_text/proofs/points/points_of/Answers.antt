use Rattle.std.proofs.Common.{ℕ, ◌≡◌, ◌∷◌, [], ◌++◌, take, Some, None, Contains, sym, subst, ap, ◌∙◌}
use Rattle.std.proofs.lemmas.List.{take_all, take_more}
use Rattle.std.proofs.lemmas.List.Elements.{Contains-get_or}
use Rattle.std.proofs.lemmas.Slice.Zip.{all_zipped_more}
use Rattle.std.specs.List.{AllZip}
use Rattle.map_defs.specs.Refusal as machine
use Rattle.map_kind.specs.Refusals.{meaning}
use Rattle.off_text.specs.MapViews.{placed}
use Rattle.off_text.proofs.Refusing.{refused-line}
use Rattle.off_text.proofs.points.points_of.Goals as goal

pub loop-vertex-init : goal.loop-vertex-init
loop-vertex-init c = rw c.in_ok-points.ensures.items tt

pub loop-vertex-preserved : goal.loop-vertex-preserved
loop-vertex-preserved c =
    rw c.in_ok-push.ensures.items
    (subst (λ front. AllZip (λ d point. placed c.args.places.now d ≡ Some point) front (c.loop-vertex.points.items ++ c.in_ok-point_at.field-0 ∷ []))
    (ap (λ d. take c.loop-vertex.vertex-index c.args.vertices.now ++ d ∷ []) c.vertex-item.is ∙ sym (take_more c.args.vertices.now c.loop-vertex.vertex-index c.vertex-item.result c.loop-vertex-test.true))
    (all_zipped_more (λ d point. placed c.args.places.now d ≡ Some point) (take c.loop-vertex.vertex-index c.args.vertices.now) c.loop-vertex.points.items c.vertex-item.result c.in_ok-point_at.field-0 c.loop-vertex.invariant c.in_ok-point_at.ensures.point))

pub returns-clause-points : goal.returns-clause-points
returns-clause-points c =
    subst (λ front. AllZip (λ d point. placed c.args.places.now d ≡ Some point) front c.loop-vertex.points.items) (take_all c.loop-vertex.vertex-index c.args.vertices.now c.loop-vertex-test.false) c.loop-vertex.invariant

pub returns-in_err-point_at-clause-refused : goal.returns-in_err-point_at-clause-refused
returns-in_err-point_at-clause-refused c =
    let among : Contains c.args.vertices.now c.vertex-item.result = subst (Contains c.args.vertices.now) (sym c.vertex-item.is) (Contains-get_or c.args.vertices.now c.loop-vertex.vertex-index c.vertex-item.result c.loop-vertex-test.true) in
    refused-line c.from_residual-in_err-point_at.result c.in_err-point_at.field-0.0 (λ why. (why ≡ machine.NoPoint) × ((d : ℕ) × Contains c.args.vertices.now d × (placed c.args.places.now d ≡ None)))
    c.from_residual-in_err-point_at.ensures.1
    (ap meaning c.in_err-point_at.ensures.none.0, (c.vertex-item.result, among, c.in_err-point_at.ensures.none.1))
