-- The sides of faces and their faults, one after the other.
use Rattle.std.proofs.Common.{◌≡◌, ℕ, suc, ◌+◌, ◌-◌, ◌<◌, true, false, List, [], ◌∷◌, ◌++◌, length, map, filter, Option, Some, None, refl, sym, ap, ◌∙◌, append_assoc, arith}
use Rattle.std.specs.List.{range_with_len}
use Rattle.std.proofs.lemmas.List.{length-append, length-map}
use Rattle.std.proofs.lemmas.List.FromFn.{length-range_with_len}
use Rattle.map_defs.specs.Kind.{Kind}
use Rattle.map_defs.specs.MeshMap.{Side, MapFault, Repeated, repeats, side_at, face_sides, sides_from, has_ends, side_fault, sides_fault, faces_fault}

pub length-face_sides : (base : ℕ) (corners : List ℕ) → length (face_sides base corners) ≡ length corners
length-face_sides base corners = length-map (range_with_len 0 (length corners)) (side_at base corners) ∙ length-range_with_len 0 (length corners)

pub length-sides_from : (base : ℕ) (corners : List ℕ) (faces : List (List ℕ)) → length (sides_from base (corners ∷ faces)) ≡ length corners + length (sides_from (base + length corners) faces)
length-sides_from base corners faces =
    length-append (face_sides base corners) (sides_from (base + length corners) faces) ∙ ap (λ (n : ℕ). n + length (sides_from (base + length corners) faces)) (length-face_sides base corners)

pub sides_fault-on : (k : Kind) (face : ℕ) (f : ℕ → Side) (earlier : List Side) (n place : ℕ) → place < n → side_fault k face (f place) (filter (has_ends (f place)) earlier) ≡ None
    → sides_fault k face (earlier ++ f place ∷ []) (map f (range_with_len (place + 1) (n - (place + 1)))) ≡ sides_fault k face earlier (map f (range_with_len place (n - place)))
sides_fault-on k face f earlier n place lt none =
    let m : n - place ≡ suc (n - (place + 1)) = omega arith in
    rw (m, none) refl

-- a face without a fault, and the faces behind it
pub faces_fault-on : (k : Kind) (face n : ℕ) (earlier next : List Side) (corners : List ℕ) (faces all : List (List ℕ)) (total : Option MapFault) → n ≡ length earlier → next ≡ earlier ++ face_sides n corners
    → all ≡ corners ∷ faces → repeats [] corners ≡ false → sides_fault k face earlier (face_sides n corners) ≡ None
    → faces_fault k face earlier all ≡ total → faces_fault k (face + 1) next faces ≡ total
faces_fault-on k face n earlier next corners faces all total long more split once none whole =
    let none' : sides_fault k face earlier (face_sides (length earlier) corners) ≡ None = ap (λ (m : ℕ). sides_fault k face earlier (face_sides m corners)) (sym long) ∙ none in
    let next' : next ≡ earlier ++ face_sides (length earlier) corners = more ∙ ap (λ (m : ℕ). earlier ++ face_sides m corners) long in
    let step : faces_fault k face earlier (corners ∷ faces) ≡ faces_fault k (face + 1) (earlier ++ face_sides (length earlier) corners) faces = rw (once, none') refl in
    ap (λ (sides : List Side). faces_fault k (face + 1) sides faces) next' ∙ (sym step ∙ (ap (faces_fault k face earlier) (sym split) ∙ whole))

pub faces_fault-repeated : (k : Kind) (face : ℕ) (earlier : List Side) (corners : List ℕ) (faces all : List (List ℕ)) (total : Option MapFault) → all ≡ corners ∷ faces → repeats [] corners ≡ true
    → faces_fault k face earlier all ≡ total → total ≡ Some (Repeated face)
faces_fault-repeated k face earlier corners faces all total split twice whole =
    let step : faces_fault k face earlier (corners ∷ faces) ≡ Some (Repeated face) = rw twice refl in
    sym whole ∙ (ap (faces_fault k face earlier) split ∙ step)

-- the sides so far, and those of the faces that are left
pub sides-on : (n m : ℕ) (earlier next : List Side) (corners : List ℕ) (faces all : List (List ℕ)) (total : List Side) → all ≡ corners ∷ faces → next ≡ earlier ++ face_sides n corners → m ≡ n + length corners
    → earlier ++ sides_from n all ≡ total → next ++ sides_from m faces ≡ total
sides-on n m earlier next corners faces all total split more long whole =
    rw (more, long) (append_assoc earlier (face_sides n corners) (sides_from (n + length corners) faces) ∙ (ap (λ (fs : List (List ℕ)). earlier ++ sides_from n fs) (sym split) ∙ whole))
