-- What the links of a mesh do at single sides, and that no side of a simple face leads from a point to the same point.
use Rattle.std.proofs.Common.{ℕ, suc, ◌≡◌, ◌≢◌, ◌+◌, ◌<◌, ◌≤◌, true, List, [], ◌∷◌, length, slice_index, slice_index_or, All, inl, inr, sym, ap, subst, ◌∙◌, arith}
use Rattle.std.proofs.lemmas.Bool.{cases_order}
use Rattle.std.proofs.lemmas.Bool.Decides.{nat_tests}
use Rattle.std.proofs.lemmas.List.FromFn.{get_or-map-range_with_len}
use Rattle.std.proofs.lemmas.List.Elements.{All-nil, All-append}
use Rattle.map_defs.specs.Kind.{Kind, alpha, beta}
use Rattle.map_defs.specs.Links.{Links}
use Rattle.map_defs.specs.Polygon.{next_side}
use Rattle.map_defs.specs.MeshMap.{Side, side_at, face_sides, sides_from, sides_of, has_ends, AreAlong, AreSewn, IsBorder, AreMeshLinks}
use Rattle.mesh_laws.specs.Sides.{no_side, side_of}
use Rattle.mesh_laws.proofs.FaceSides.{length-face_sides}
use Rattle.mesh_laws.proofs.MeshLinks.{side-is}
use Rattle.off_laws.specs.ReadBack.{IsSimple}
use Rattle.off_laws.proofs.RenumberedPairs.{points-same, ends-same, points-turned}

next-within : (n s : ℕ) → s < n → next_side n s < n
next-within n s h = grind (arith, nat_tests)

next-other : (n s : ℕ) → 2 ≤ n → s < n → next_side n s ≢ s
next-other n s two h = grind (arith, nat_tests)

-- a side leads from a point to another
abbrev pub LeadsAway : Side → Type 0
LeadsAway s = s.from ≢ s.to

face-away : (base : ℕ) (corners : List ℕ) → IsSimple corners → 2 ≤ length corners → All LeadsAway (face_sides base corners)
face-away base corners simple two j z h =
    let n : ℕ = length corners in
    let lt : j < n = omega (arith, h, length-face_sides base corners) in
    let at : slice_index_or (face_sides base corners) j z ≡ side_at base corners j = get_or-map-range_with_len (side_at base corners) 0 n j j z lt (omega arith) in
    let within = next-within n j lt in
    let other = next-other n j two lt in
    let away : slice_index corners j ≢ slice_index corners (next_side n j) = λ same. elim (cases_order j (next_side n j)) [
      | inl e ↦ other (sym e)
      | inr (inl before) ↦ simple j (next_side n j) before within same
      | inr (inr after) ↦ simple (next_side n j) j after lt (sym same)
    ] in
    subst LeadsAway (sym at) away

sides-away : (base : ℕ) (faces : List (List ℕ)) → All IsSimple faces → All (λ (corners : List ℕ). 2 ≤ length corners) faces → All LeadsAway (sides_from base faces)
sides-away base [] simple two = All-nil LeadsAway
sides-away base (corners ∷ faces) simple two =
    All-append LeadsAway (face_sides base corners) (sides_from (base + length corners) faces) (face-away base corners (simple 0 [] (omega arith)) (two 0 [] (omega arith)))
    (sides-away (base + length corners) faces (λ k z h. simple (suc k) z (omega (arith, h))) (λ k z h. two (suc k) z (omega (arith, h))))

pub side-away : (faces : List (List ℕ)) → All IsSimple faces → All (λ (corners : List ℕ). 2 ≤ length corners) faces → (i : ℕ) → i < length (sides_of faces) → LeadsAway (side_of (sides_of faces) i)
side-away faces simple two i h = sides-away 0 faces simple two i no_side h

sewn-turned : (k : Kind) (M : Links) (s t : Side) → AreSewn k M s t → AreSewn k M t s
sewn-turned alpha M s t (inl p) = inl (sym p.0, (p.1.1, p.1.0), (p.2.1, p.2.0))
sewn-turned alpha M s t (inr p) = inr ((λ e. p.0 (sym e)), (p.2.1, p.2.0), (p.1.1, p.1.0))
sewn-turned beta M s t p = ((λ e. p.0 (sym e)), (p.1.1, p.1.0))

module _ (k : Kind) (faces : List (List ℕ)) (M : Links) (m : AreMeshLinks k (sides_of faces) M) where
  abbrev side : ℕ → Side
  side i = side_of (sides_of faces) i

  pub along-at : (i : ℕ) → i < length (sides_of faces) → AreAlong k M (side i)
  along-at i h = m.along i no_side h

  pub sewn-at : (i j : ℕ) → i < length (sides_of faces) → j < length (sides_of faces) → i ≢ j → has_ends (side i) (side j) ≡ true → AreSewn k M (side i) (side j)
  sewn-at i j hi hj ne ends = elim (cases_order i j) [
    | inl same ↦ absurd (ne same)
    | inr (inl before) ↦ m.sewn i j no_side before hj ends
    | inr (inr after) ↦ sewn-turned k M (side j) (side i) (m.sewn j i no_side after hi (ends-same (side j) (side i) (points-turned (side i) (side j) (points-same (side i) (side j) ends))))
  ]

  pub border-at : (i : ℕ) → i < length (sides_of faces) → ((j : ℕ) → j < length (sides_of faces) → has_ends (side i) (side j) ≡ true → j ≡ i) → IsBorder k M (side i)
  border-at i h only = m.border i no_side h alone
    where
      alone : All (λ (t : Side). has_ends (side i) t ≡ true → side i ≡ t) (sides_of faces)
      alone j z lt ends =
          let is = side-is faces j z lt in
          let same = only j lt (subst (λ (t : Side). has_ends (side i) t ≡ true) is ends) in
          sym (is ∙ ap side same)
