use Rattle.std.proofs.Common.{◌≡◌, ℕ, List, [], ◌∷◌, ◌++◌, length, map, filter, None, sym, ap, subst, ◌∙◌, append_assoc, arith}
use Rattle.std.specs.List.{range_with_len}
use Rattle.std.proofs.lemmas.List.{length-map, length_push}
use Rattle.std.proofs.lemmas.List.FromFn.{map-range_with_len_more}
use Rattle.map_defs.specs.MeshMap.{Side, side_at, has_ends, side_fault}
use Rattle.mesh_build.specs.Sides.{side_view, sides_view}
use Rattle.mesh_laws.specs.Sides.{kind_of}
use Rattle.mesh_laws.proofs.FaceSides.{sides_fault-on}
use Rattle.mesh_build.proofs.sew.add_face.Goals as goal

pub loop-place-preserved : goal.loop-place-preserved
loop-place-preserved c =
    let base : ℕ = length c.args.book.now.sides.items in
    let f : ℕ → Side = side_at base c.args.corners.now in
    let place : ℕ = c.loop-place.place in
    let kept = c.loop-place.invariant in
    let based : c.len-base.result ≡ base = omega (arith, c.args.book.now.sides.ok.0) in
    let side : side_view c.new.result ≡ f place = c.new.ensures ∙ ap (λ (b : ℕ). side_at b c.args.corners.now place) based in
    let more : sides_view c.add.new.self.sides ≡ sides_view c.loop-place.book.sides ++ f place ∷ [] = c.in_ok-add.ensures.sides ∙ ap (λ (s : Side). sides_view c.loop-place.book.sides ++ s ∷ []) side in
    let none : side_fault (kind_of c.args.oriented) c.args.face (f place) (filter (has_ends (f place)) (sides_view c.loop-place.book.sides)) ≡ None =
    subst (λ (s : Side). side_fault (kind_of c.args.oriented) c.args.face s (filter (has_ends s) (sides_view c.loop-place.book.sides)) ≡ None) side c.in_ok-add.ensures.fault in
    record {
      kept = c.in_ok-add.ensures.ok;
      number = omega (
        arith,
        kept.number,
        ap length more,
        length_push (sides_view c.loop-place.book.sides) (f place),
        length-map c.loop-place.book.sides.items side_view,
        length-map c.add.new.self.sides.items side_view,
      );
      sides = more ∙ (ap (λ (xs : List Side). xs ++ f place ∷ []) kept.sides
          ∙ (append_assoc (sides_view c.args.book.now.sides) (map f (range_with_len 0 place)) (f place ∷ [])
          ∙ ap (λ (xs : List Side). sides_view c.args.book.now.sides ++ xs) (sym (map-range_with_len_more f 0 place place (omega arith)))));
      fault = rw more (sides_fault-on (kind_of c.args.oriented) c.args.face f (sides_view c.loop-place.book.sides) (length c.args.corners.now) place c.loop-place-test.true none ∙ kept.fault);
    }
