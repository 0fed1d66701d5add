-- A mesh has no fault where its sides can be sewn, in whichever order they come.
use Rattle.std.proofs.Common.{◌≡◌, ◌≢◌, ℕ, zero, suc, ◌+◌, ◌*◌, ◌<◌, ◌≤◌, ◌⊎◌, List, [], ◌++◌, length, take, drop, get_or, refl, sym, ap, ◌∙◌, inl, inr, arith}
use Rattle.std.proofs.lemmas.Bool.{cases_lt, cases_order}
use Rattle.std.proofs.lemmas.List.{length-append, take-append-drop, take_all}
use Rattle.map_defs.specs.Kind.{Kind, beta}
use Rattle.map_defs.specs.Rows.{made_max}
use Rattle.map_defs.specs.Polygon.{per_side}
use Rattle.map_defs.specs.Off.{Mesh}
use Rattle.map_defs.specs.MeshMap.{Side, MapFault, Full, Repeated, ThreeSides, Turned, sides_from, sides_of}
use Rattle.mesh_laws.specs.Sides.{side_of}
use Rattle.reading_laws.specs.MeshFaults.{RepeatsCorner, HaveSamePoints, IsEarlier, IsThird, IsTurned, IsSideFault, third, turned, IsSideOf, IsFaceFault, repeated, of_side, IsMeshFault, full, of_face, CanBeSewn}
use Rattle.reading_laws.proofs.FacesMet.{sides-split}

-- the sides of some faces are not more than those of all
fewer-sides : (m : ℕ) (faces : List (List ℕ)) → length (sides_of (take m faces)) ≤ length (sides_of faces)
fewer-sides m faces =
    let front : List Side = sides_of (take m faces) in
    let back : List Side = sides_from (length front) (drop m faces) in
    let split : sides_of faces ≡ front ++ back = ap sides_of (sym (take-append-drop m faces)) ∙ sides-split 0 (length front) (take m faces) (drop m faces) (omega arith) in
    omega (arith, ap length split, length-append front back)

-- each side is one of some face
some-face : (m p : ℕ) (faces : List (List ℕ)) → p < length (sides_of (take m faces)) → (f : ℕ) × IsSideOf faces f p
some-face zero p faces h = absurd (omega arith)
some-face (suc m) p faces h = at (cases_lt p (length (sides_of (take m faces)))) (some-face m p faces)
  where
    at : (p < length (sides_of (take m faces))) ⊎ (length (sides_of (take m faces)) ≤ p) → (p < length (sides_of (take m faces)) → (f : ℕ) × IsSideOf faces f p) → (f : ℕ) × IsSideOf faces f p
    at (inl before) earlier = earlier before
    at (inr here) earlier =
        let one : m + 1 ≡ suc m = omega arith in
        let next : length (sides_of (take (m + 1) faces)) ≡ length (sides_of (take (suc m) faces)) = ap (λ (n : ℕ). length (sides_of (take n faces))) one in
        (m, (here, omega arith))

pub face-of : (p : ℕ) (faces : List (List ℕ)) → p < length (sides_of faces) → (f : ℕ) × IsSideOf faces f p
face-of p faces h =
    let all : length (sides_of (take (length faces) faces)) ≡ length (sides_of faces) = ap (λ (fs : List (List ℕ)). length (sides_of fs)) (take_all (length faces) faces (omega arith)) in
    some-face (length faces) p faces (omega arith)

module _ (k : Kind) (mesh : Mesh) where
  abbrev sides : List Side
  sides = sides_of mesh.faces

  abbrev darts : ℕ
  darts = per_side k * length sides

  module _ (none : (fault : MapFault) → IsMeshFault k mesh fault → ⊥) where
    few : darts ≤ made_max
    few = elim (cases_lt made_max darts) [ inl many ↦ absurd (none (Full darts) (full many refl)) | inr le ↦ le ]

    no-face : (bound f : ℕ) → f < bound → (fault : MapFault) → IsFaceFault k mesh.faces f fault → ⊥
    no-face zero f h fault is = omega arith
    no-face (suc bound) f h fault is = none fault (of_face f few is (λ g other below bad. no-face bound g (omega arith) other bad))

    once : (f : ℕ) → RepeatsCorner (get_or mesh.faces f []) → ⊥
    once f twice = no-face (suc f) f (omega arith) (Repeated f) (repeated twice refl)

    no-side : (bound f p : ℕ) → p < bound → IsSideOf mesh.faces f p → (fault : MapFault) → IsSideFault k sides f p fault → ⊥
    no-side zero f p h at fault is = omega arith
    no-side (suc bound) f p h at fault is =
        no-face (suc f) f (omega arith) fault (of_side p (once f) at is (λ q other below there bad. no-side bound f q (omega arith) there other bad))

    no-third : (p : ℕ) → p < length sides → IsThird sides p → ⊥
    no-third p h is = let face = face-of p mesh.faces h in no-side (suc p) face.0 p (omega arith) face.1 (ThreeSides face.0) (third is refl)

    no-turned : k ≡ beta → (p : ℕ) → p < length sides → IsTurned sides p → ⊥
    no-turned oriented p h is = let face = face-of p mesh.faces h in no-side (suc p) face.0 p (omega arith) face.1 (Turned face.0) (turned oriented is refl)

    two : (p q r : ℕ) → p < q → q < r → r < length sides → HaveSamePoints (side_of sides p) (side_of sides r) → HaveSamePoints (side_of sides q) (side_of sides r) → ⊥
    two p q r first second h one other = no-third r h (p, q, (omega arith, one), (omega arith, other), λ e. absurd (omega arith))

    apart : k ≡ beta → (p q : ℕ) → p < q → q < length sides → HaveSamePoints (side_of sides p) (side_of sides q) → (side_of sides p).from ≢ (side_of sides q).from
    apart oriented p q below h same starts = no-turned oriented q h (p, (below, same), only, starts)
      where
        only : (r : ℕ) → IsEarlier sides q r → r ≡ p
        only r earlier = elim (cases_order r p) [
          | inl is ↦ is
          | inr (inl before) ↦ absurd (two r p q before below h earlier.1 same)
          | inr (inr after) ↦ absurd (two p r q after earlier.0 h same earlier.1)
        ]

    pub can-be-sewn : CanBeSewn k mesh
    can-be-sewn = record { few = few; once = once; two = two; apart = apart }

  module _ (can : CanBeSewn k mesh) where
    side-sound : (f p : ℕ) (fault : MapFault) → p < length sides → IsSideFault k sides f p fault → ⊥
    side-sound f p fault h (third (q, r, eq, er, ne) is) = elim (cases_order q r) [
      | inl same ↦ ne same
      | inr (inl before) ↦ can.two q r p before er.0 h eq.1 er.1
      | inr (inr after) ↦ can.two r q p after eq.0 h er.1 eq.1
    ]
    side-sound f p fault h (turned oriented (q, eq, only, starts) is) = can.apart oriented q p eq.0 h eq.1 starts

    pub no-fault-there : (fault : MapFault) → IsMeshFault k mesh fault → ⊥
    no-fault-there fault (full many is) = let low = can.few in omega arith
    no-fault-there fault (of_face f few (repeated twice is) none) = can.once f twice
    no-fault-there fault (of_face f few (of_side p once at is none) first) = let fewer = fewer-sides (f + 1) mesh.faces in side-sound f p fault (omega (arith, at.1)) is
