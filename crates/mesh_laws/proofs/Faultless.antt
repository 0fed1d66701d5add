-- Between two points of a mesh without a fault there are at most two sides.
use Rattle.std.proofs.Common.{◌≡◌, ◌≢◌, ℕ, suc, ◌+◌, ◌*◌, ◌<◌, ◌≤◌, max, Bool, true, false, cond, ◌&&◌, ◌==◌, nat_lt, List, [], ◌∷◌, ◌++◌, length, filter, Option, Some, None, refl, sym, ap, subst, ◌∙◌, ◌⊎◌, inl, inr, eq-eqb, append_assoc, arith}
use Rattle.std.proofs.lemmas.Bool.{cases_Bool}
use Rattle.std.proofs.lemmas.Bool.Decides.{nat_tests}
use Rattle.std.proofs.lemmas.List.{append-nil, length-append}
use Rattle.std.proofs.lemmas.List.FromFn.{get_or-map-range_with_len}
use Rattle.map_defs.specs.Kind.{Kind}
use Rattle.map_defs.specs.Polygon.{per_side}
use Rattle.map_defs.specs.Rows.{made_max}
use Rattle.map_defs.specs.Off.{Mesh}
use Rattle.map_defs.specs.MeshMap.{Side, MapFault, Full, Repeated, Turned, side_at, face_sides, sides_from, sides_of, is_between, has_ends, is_oriented, or_else, repeats, side_fault, sides_fault, face_fault, faces_fault, mesh_fault}
use Rattle.mesh_laws.specs.Sides.{no_side, side_of, kind_of}
use Rattle.mesh_laws.proofs.FaceSides.{length-face_sides}
use Rattle.mesh_laws.proofs.Filtered.{found_at, oriented-is, numbered-on, filter-more, filter-same, ends-of}

-- Two sides at most, by their numbers, which lead in opposite ways where the map is oriented.
abbrev pub AreFew : Bool → List Side → Type 0
AreFew oriented [] = Unit {0}
AreFew oriented (s ∷ []) = Unit {0}
AreFew oriented (s ∷ t ∷ []) = (s.number < t.number) × (oriented ≡ true → s.from ≢ t.from)
AreFew oriented (s ∷ t ∷ u ∷ more) = ⊥

-- The sides are numbered by their places, and few lie between two points.
pub record IsFaultless (oriented : Bool) (sides : List Side) : Type 0 where
  pub numbers : (s : ℕ) → s < length sides → (side_of sides s).number ≡ s
  pub edges : (low high : ℕ) → AreFew oriented (filter (is_between low high) sides)

none-first : (a b : Option MapFault) → or_else a b ≡ None → (a ≡ None) × (b ≡ None)
none-first None b e = (refl, e)
none-first (Some x) b e = absurd (cc (e))

none-else : (b : Bool) (f : MapFault) (x : Option MapFault) → cond b (Some f) x ≡ None → (b ≡ false) × (x ≡ None)
none-else true f x e = absurd (cc (e))
none-else false f x e = (refl, e)

module _ (o : Bool) (face : ℕ) where
  -- one more side between two points, without a fault
  more-few : (met : List Side) (s : Side) → side_fault (kind_of o) face s met ≡ None → ((i : ℕ) → i < length met → (side_of met i).number < s.number) → AreFew o (met ++ s ∷ [])
  more-few [] s none earlier = tt
  more-few (t ∷ []) s none earlier = (earlier 0 (omega arith), turned)
    where
      test : is_oriented (kind_of o) && (t.from == s.from) ≡ false
      test = (none-else (is_oriented (kind_of o) && (t.from == s.from)) (Turned face) None none).0

      turned : o ≡ true → t.from ≢ s.from
      turned oriented same =
          let both : is_oriented (kind_of o) && (t.from == s.from) ≡ true = rw (oriented-is o, oriented, eq-eqb t.from s.from same) refl in
          cc (both, test)
  more-few (t ∷ u ∷ more) s none earlier = absurd (cc (none))

  -- one more side of all
  more-faultless : (sides : List Side) (s : Side) → IsFaultless o sides → s.number ≡ length sides → side_fault (kind_of o) face s (filter (has_ends s) sides) ≡ None → IsFaultless o (sides ++ s ∷ [])
  more-faultless sides s faultless number none = record {
    numbers = numbered-on sides s faultless.numbers number;
    edges = λ low high. edge low high (cases_Bool (is_between low high s));
  }
    where
      earlier : (i : ℕ) → i < length (filter (has_ends s) sides) → (side_of (filter (has_ends s) sides) i).number < s.number
      earlier i h =
          let f = found_at (has_ends s) sides i h in
          let at : (side_of (filter (has_ends s) sides) i).number ≡ f.0 = ap (λ (x : Side). x.number) (sym f.2) ∙ faultless.numbers f.0 f.1 in
          omega (arith, at, f.1, number)

      edge : (low high : ℕ) → (is_between low high s ≡ true) ⊎ (is_between low high s ≡ false) → AreFew o (filter (is_between low high) (sides ++ s ∷ []))
      edge low high (inl e) =
          let ends = ends-of low high s e in
          let here : AreFew o (filter (has_ends s) sides ++ s ∷ []) = more-few (filter (has_ends s) sides) s none earlier in
          let there : AreFew o (filter (is_between low (max s.from s.to)) sides ++ s ∷ []) = subst (λ (m : ℕ). AreFew o (filter (is_between m (max s.from s.to)) sides ++ s ∷ [])) ends.0 here in
          rw (filter-more (is_between low high) sides s e) (subst (λ (m : ℕ). AreFew o (filter (is_between low m) sides ++ s ∷ [])) ends.1 there)
      edge low high (inr e) = rw (filter-same (is_between low high) sides s e) (faultless.edges low high)

  -- the sides of a face
  sides-faultless : (sides earlier : List Side) → IsFaultless o earlier → ((i : ℕ) → i < length sides → (side_of sides i).number ≡ length earlier + i) → sides_fault (kind_of o) face earlier sides ≡ None
      → IsFaultless o (earlier ++ sides)
  sides-faultless [] earlier faultless numbers none = rw (append-nil earlier) faultless
  sides-faultless (s ∷ sides) earlier faultless numbers none =
      let parts = none-first (side_fault (kind_of o) face s (filter (has_ends s) earlier)) (sides_fault (kind_of o) face (earlier ++ s ∷ []) sides) none in
      let first = numbers 0 (omega arith) in
      let next : IsFaultless o (earlier ++ s ∷ []) = more-faultless earlier s faultless (omega (arith, first)) parts.0 in
      subst (IsFaultless o) (append_assoc earlier (s ∷ []) sides)
      (sides-faultless sides (earlier ++ s ∷ []) next
      (λ i h. let at = numbers (suc i) (omega arith) in omega (arith, at, length-append earlier (s ∷ []))) parts.1)

  face-faultless : (corners : List ℕ) (earlier : List Side) → IsFaultless o earlier → face_fault (kind_of o) face earlier corners ≡ None → IsFaultless o (earlier ++ face_sides (length earlier) corners)
  face-faultless corners earlier faultless none =
      sides-faultless (face_sides (length earlier) corners) earlier faultless number
      (none-else (repeats [] corners) (Repeated face) (sides_fault (kind_of o) face earlier (face_sides (length earlier) corners)) none).1
    where
      number : (i : ℕ) → i < length (face_sides (length earlier) corners) → (side_of (face_sides (length earlier) corners) i).number ≡ length earlier + i
      number i h =
          ap (λ (x : Side). x.number)
          (get_or-map-range_with_len (side_at (length earlier) corners) 0 (length corners) i i no_side (omega (arith, length-face_sides (length earlier) corners)) (omega arith))

-- the sides of faces
faces-faultless : (o : Bool) (face : ℕ) (faces : List (List ℕ)) (earlier : List Side) → IsFaultless o earlier → faces_fault (kind_of o) face earlier faces ≡ None
    → IsFaultless o (earlier ++ sides_from (length earlier) faces)
faces-faultless o face [] earlier faultless none = rw (append-nil earlier) faultless
faces-faultless o face (corners ∷ faces) earlier faultless none =
    let own : List Side = face_sides (length earlier) corners in
    let parts = none-first (face_fault (kind_of o) face earlier corners) (faces_fault (kind_of o) (face + 1) (earlier ++ own) faces) none in
    let next : IsFaultless o (earlier ++ own) = face-faultless o face corners earlier faultless parts.0 in
    let long : length (earlier ++ own) ≡ length earlier + length corners = omega (arith, length-append earlier own, length-face_sides (length earlier) corners) in
    let all : IsFaultless o ((earlier ++ own) ++ sides_from (length (earlier ++ own)) faces) = faces-faultless o (face + 1) faces (earlier ++ own) next parts.1 in
    subst (IsFaultless o) (ap (λ (m : ℕ). (earlier ++ own) ++ sides_from m faces) long ∙ append_assoc earlier own (sides_from (length earlier + length corners) faces)) all

-- What a mesh without a fault has: few darts, and few sides between two points.
pub mesh-few : (k : Kind) (mesh : Mesh) → mesh_fault k mesh ≡ None → per_side k * length (sides_of mesh.faces) ≤ made_max
mesh-few k mesh none =
    let darts : ℕ = per_side k * length (sides_of mesh.faces) in
    let test : nat_lt made_max darts ≡ false = (none-else (nat_lt made_max darts) (Full darts) (faces_fault k 0 [] mesh.faces) none).0 in
    grind (arith, nat_tests)

pub mesh-faultless : (o : Bool) (mesh : Mesh) → mesh_fault (kind_of o) mesh ≡ None → IsFaultless o (sides_of mesh.faces)
mesh-faultless o mesh none =
    let darts : ℕ = per_side (kind_of o) * length (sides_of mesh.faces) in
    faces-faultless o 0 mesh.faces [] (record { numbers = λ s h. absurd (omega arith); edges = λ low high. tt })
    (none-else (nat_lt made_max darts) (Full darts) (faces_fault (kind_of o) 0 [] mesh.faces) none).1
