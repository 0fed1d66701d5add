use Rattle.std.proofs.Common.{◌≡◌, ℕ, ◌+◌, ◌<◌, true, false, List, [], ◌∷◌, ◌++◌, length, get_or, drop, map, replicate, refl, sym, ap, subst, ◌∙◌, arith}
use Rattle.std.proofs.lemmas.List.{length-map, length-append, append-nil, drop_all, get_or-replicate}
use Rattle.std.proofs.lemmas.Result.{err_from_is_err_and}
use Rattle.map_defs.specs.MeshMap.{Side, repeats, face_sides, sides_from, faces_fault}
use Rattle.mesh_build.specs.Sides.{side_view, sides_view}
use Rattle.mesh_laws.specs.Sides.{kind_of, IsRing}
use Rattle.mesh_build.specs.declared.sew.Sewn.{Sewn}
use Rattle.mesh_build.proofs.FaceSides.{faces-split, faces_fault-stop}
use Rattle.mesh_laws.proofs.FaceSides.{length-sides_from, length-face_sides, faces_fault-on, faces_fault-repeated, sides-on}
use Rattle.mesh_laws.proofs.Rings.{is_ring}
use Rattle.mesh_build.proofs.Partners.{is_sewn}
use Rattle.mesh_build.proofs.sew.sew_faces.Goals as goal

length-replicate-at : (n k d : ℕ) → k < n → get_or (replicate n 0) k d ≡ 0
length-replicate-at n k d h = get_or-replicate n k 0 d h

pub loop-face-init : goal.loop-face-init
loop-face-init c =
    let none : sides_view c.in_ok-book.book.sides ≡ [] = ap (map side_view) c.in_ok-book.ensures.sides in
    let marks = c.in_ok-marks.ensures.items_if_clones_equal (λ y e. e) in
    record {
      kept = c.in_ok-book.ensures.kept c.args.oriented;
      sides = rw (none, c.in_ok-book.ensures.sides) refl;
      fault = rw none refl;
      long = omega (arith, c.in_ok-marks.ensures.len, c.in_ok-marks.marks.ok.0, c.args.mesh.now.points.ok.0);
      fresh = λ k d h. rw marks (omega (arith, length-replicate-at c.len.result k d (omega (arith, h, c.in_ok-marks.ensures.len, c.in_ok-marks.marks.ok.0))));
    }

pub has_repeat-requires-clause-points : goal.has_repeat-requires-clause-points
has_repeat-requires-clause-points c =
    let within : c.loop-face.face < length c.args.mesh.now.faces = omega (arith, c.loop-face-test.true, c.len-face-end.ensures) in
    rw (c.list-corners.ensures, c.loop-face.invariant.long) (c.requires.faces.points c.loop-face.face [] within)

pub returns-then-has_repeat-clause-fault : goal.returns-then-has_repeat-clause-fault
returns-then-has_repeat-clause-fault c =
    let split = faces-split c.args.mesh.now.faces c.loop-face.face c.list-corners.result.now (omega (arith, c.loop-face-test.true, c.len-face-end.ensures)) c.list-corners.ensures in
    let twice : repeats [] c.list-corners.result.now ≡ true = sym c.has_repeat.ensures.result ∙ c.if-has_repeat.true in
    faces_fault-repeated (kind_of c.args.oriented) c.loop-face.face (sides_view c.loop-face.book.sides) c.list-corners.result.now _ _ _ split twice c.loop-face.invariant.fault

pub add_face-requires-clause-few : goal.add_face-requires-clause-few
add_face-requires-clause-few c =
    let n : ℕ = length c.loop-face.book.sides.items in
    let rest : List (List ℕ) = drop (c.loop-face.face + 1) c.args.mesh.now.faces in
    let split = faces-split c.args.mesh.now.faces c.loop-face.face c.list-corners.result.now (omega (arith, c.loop-face-test.true, c.len-face-end.ensures)) c.list-corners.ensures in
    let whole = ap (λ (fs : List (List ℕ)). sides_view c.loop-face.book.sides ++ sides_from n fs) (sym split) ∙ c.loop-face.invariant.sides in
    omega (
      arith,
      c.requires.few,
      ap length whole,
      length-append (sides_view c.loop-face.book.sides) (sides_from n (c.list-corners.result.now ∷ rest)),
      length-map c.loop-face.book.sides.items side_view,
      length-sides_from n c.list-corners.result.now rest,
    )

pub returns-in_err-add_face-clause-fault : goal.returns-in_err-add_face-clause-fault
returns-in_err-add_face-clause-fault c =
    let n : ℕ = length c.loop-face.book.sides.items in
    let earlier : List Side = sides_view c.loop-face.book.sides in
    let split = faces-split c.args.mesh.now.faces c.loop-face.face c.list-corners.result.now (omega (arith, c.loop-face-test.true, c.len-face-end.ensures)) c.list-corners.ensures in
    let once : repeats [] c.list-corners.result.now ≡ false = sym c.has_repeat.ensures.result ∙ c.if-has_repeat.false in
    let long : n ≡ length earlier = omega (arith, length-map c.loop-face.book.sides.items side_view) in
    let p = err_from_is_err_and c.from_residual-in_err-add_face.result c.from_residual-in_err-add_face.ensures.1 in
    rw (p.1, p.2)
    (faces_fault-stop Sewn c.in_err-add_face.field-0.0 (kind_of c.args.oriented) c.loop-face.face n earlier c.list-corners.result.now _ _ _ long split once c.in_err-add_face.ensures.fault c.loop-face.invariant.fault)

pub loop-face-preserved : goal.loop-face-preserved
loop-face-preserved c =
    let n : ℕ = length c.loop-face.book.sides.items in
    let earlier : List Side = sides_view c.loop-face.book.sides in
    let corners : List ℕ = c.list-corners.result.now in
    let split = faces-split c.args.mesh.now.faces c.loop-face.face c.list-corners.result.now (omega (arith, c.loop-face-test.true, c.len-face-end.ensures)) c.list-corners.ensures in
    let once : repeats [] corners ≡ false = sym c.has_repeat.ensures.result ∙ c.if-has_repeat.false in
    let long : n ≡ length earlier = omega (arith, length-map c.loop-face.book.sides.items side_view) in
    let more : sides_view c.add_face.new.book.sides ≡ earlier ++ face_sides n corners = c.in_ok-add_face.ensures.sides in
    let longer : length c.add_face.new.book.sides.items ≡ n + length corners =
    omega (arith, ap length more, length-append earlier (face_sides n corners), length-face_sides n corners, length-map c.loop-face.book.sides.items side_view, length-map c.add_face.new.book.sides.items side_view) in
    record {
      kept = c.in_ok-add_face.ensures.kept;
      sides = sides-on n (length c.add_face.new.book.sides.items) earlier (sides_view c.add_face.new.book.sides) corners _ _ _ split more longer c.loop-face.invariant.sides;
      fault = faces_fault-on (kind_of c.args.oriented) c.loop-face.face n earlier (sides_view c.add_face.new.book.sides) corners _ _ _ long more split once c.in_ok-add_face.ensures.fault c.loop-face.invariant.fault;
      long = c.has_repeat.ensures.long ∙ c.loop-face.invariant.long;
      fresh = c.has_repeat.ensures.stamped;
    }

pub returns-clause-sides : goal.returns-clause-sides
returns-clause-sides c =
    let none : drop c.loop-face.face c.args.mesh.now.faces ≡ [] = drop_all c.loop-face.face c.args.mesh.now.faces (omega (arith, c.loop-face-test.false, c.len-face-end.ensures)) in
    sym (append-nil (sides_view c.loop-face.book.sides))
    ∙ (ap (λ (fs : List (List ℕ)). sides_view c.loop-face.book.sides ++ sides_from (length c.loop-face.book.sides.items) fs) (sym none) ∙ c.loop-face.invariant.sides)

pub returns-clause-sewn : goal.returns-clause-sewn
returns-clause-sewn c =
    is_sewn c.args.oriented c.loop-face.book.last c.loop-face.book.partners.items (sides_view c.loop-face.book.sides) c.loop-face.invariant.kept
    (subst (λ (sides : List Side). (s : ℕ) → s < length sides → IsRing sides s) (sym (returns-clause-sides c)) (is_ring c.args.mesh.now.faces))

pub returns-clause-fault : goal.returns-clause-fault
returns-clause-fault c =
    let none : drop c.loop-face.face c.args.mesh.now.faces ≡ [] = drop_all c.loop-face.face c.args.mesh.now.faces (omega (arith, c.loop-face-test.false, c.len-face-end.ensures)) in
    sym c.loop-face.invariant.fault ∙ ap (faces_fault (kind_of c.args.oriented) c.loop-face.face (sides_view c.loop-face.book.sides)) none
