-- The faults of faces as a loop finds them.
use Rattle.std.proofs.Common.{◌≡◌, ℕ, suc, ◌+◌, ◌*◌, ◌<◌, ◌≤◌, false, List, [], ◌∷◌, ◌++◌, length, get_or, drop, Option, Err, refl, sym, ap, subst, ◌∙◌, arith}
use Rattle.std.specs.Prelude.{All}
use Rattle.std.specs.List.{sum_by}
use Rattle.std.proofs.lemmas.List.{drop_more}
use Rattle.std.proofs.lemmas.List.Sums.{sum_by-cons}
use Rattle.map_defs.specs.Kind.{Kind}
use Rattle.map_defs.specs.MeshMap.{Side, MapFault, repeats, face_sides, sides_from, or_else, sides_fault, faces_fault}
use Rattle.mesh_build.specs.declared.fault.MeshFault.{MeshFault}
use Rattle.mesh_build.specs.declared.fault.MeshFault.TheVariants as told
use Rattle.mesh_laws.proofs.FaceSides.{length-sides_from}
use Rattle.mesh_build.specs.Sides.{Fails}

-- the first of two faults is told
pub fails-first : (A : Type 0) (f : MeshFault) (first other : Option MapFault) → Fails {A = A} (Err f) first → Fails {A = A} (Err f) (or_else first other)
fails-first A (told.Full d) first other h = ap (λ (o : Option MapFault). or_else o other) h
fails-first A (told.Repeated d) first other h = ap (λ (o : Option MapFault). or_else o other) h
fails-first A (told.ThreeSides d) first other h = ap (λ (o : Option MapFault). or_else o other) h
fails-first A (told.Turned d) first other h = ap (λ (o : Option MapFault). or_else o other) h
fails-first A told.NoMemory first other h = tt

-- the first of some faces, and those behind it
pub faces-split : (faces : List (List ℕ)) (i : ℕ) (corners : List ℕ) → i < length faces → corners ≡ get_or faces i [] → drop i faces ≡ corners ∷ drop (i + 1) faces
faces-split faces i corners h is = drop_more faces i [] h ∙ ap (λ (face : List ℕ). face ∷ drop (i + 1) faces) (sym is)

-- there is a side for each corner
pub length-sides : (base : ℕ) (faces : List (List ℕ)) → length (sides_from base faces) ≡ sum_by length faces
length-sides base [] = refl
length-sides base (corners ∷ faces) =
    length-sides_from base corners faces ∙ (ap (λ (n : ℕ). length corners + n) (length-sides (base + length corners) faces) ∙ sym (sum_by-cons length corners faces))

-- faces of few corners have few sides
pub few-sides : (most base : ℕ) (faces : List (List ℕ)) → All (λ (corners : List ℕ). length corners ≤ most) faces → length (sides_from base faces) ≤ most * length faces
few-sides most base [] each = omega arith
few-sides most base (corners ∷ faces) each =
    let first : length corners ≤ most = each 0 [] (omega arith) in
    let more : length (sides_from (base + length corners) faces) ≤ most * length faces = few-sides most (base + length corners) faces (λ k z h. each (suc k) z (omega (arith, h))) in
    let whole : most * suc (length faces) ≡ most + most * length faces = grind arith in
    omega (arith, length-sides_from base corners faces, first, more, whole)

pub faces_fault-stop : (A : Type 0) (f : MeshFault) (k : Kind) (face n : ℕ) (earlier : List Side) (corners : List ℕ) (faces all : List (List ℕ)) (total : Option MapFault) → n ≡ length earlier → all ≡ corners ∷ faces
    → repeats [] corners ≡ false → Fails {A = Unit {0}} (Err f) (sides_fault k face earlier (face_sides n corners)) → faces_fault k face earlier all ≡ total → Fails {A = A} (Err f) total
faces_fault-stop A f k face n earlier corners faces all total long split once fails whole =
    let sides : sides_fault k face earlier (face_sides n corners) ≡ sides_fault k face earlier (face_sides (length earlier) corners) = ap (λ (m : ℕ). sides_fault k face earlier (face_sides m corners)) long in
    let step : faces_fault k face earlier (corners ∷ faces)
    ≡ or_else (sides_fault k face earlier (face_sides (length earlier) corners)) (faces_fault k (face + 1) (earlier ++ face_sides (length earlier) corners) faces) = rw once refl in
    let same : or_else (sides_fault k face earlier (face_sides (length earlier) corners)) (faces_fault k (face + 1) (earlier ++ face_sides (length earlier) corners) faces) ≡ total =
    sym step ∙ (ap (faces_fault k face earlier) (sym split) ∙ whole) in
    subst (λ (o : Option MapFault). Fails {A = A} (Err f) o) same
    (fails-first A f _ _ (of_unit A f _ (subst (λ (o : Option MapFault). Fails {A = Unit {0}} (Err f) o) sides fails)))
  where
    of_unit : (A : Type 0) (f : MeshFault) (o : Option MapFault) → Fails {A = Unit {0}} (Err f) o → Fails {A = A} (Err f) o
    of_unit A (told.Full d) o h = h
    of_unit A (told.Repeated d) o h = h
    of_unit A (told.ThreeSides d) o h = h
    of_unit A (told.Turned d) o h = h
    of_unit A told.NoMemory o h = tt
