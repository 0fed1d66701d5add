-- The earlier sides between the points of a side, as a filter keeps them and by their places.
use Rattle.std.proofs.Common.{◌≡◌, ℕ, zero, suc, ◌<◌, min, max, Bool, true, false, cond, ◌&&◌, ◌==◌, List, [], ◌∷◌, ◌++◌, length, filter, Option, Some, None, refl, sym, ap, subst, ◌∙◌, inl, inr, eq-eqb, arith}
use Rattle.std.proofs.lemmas.Bool.{eqb-true, cases_eq, both_ways}
use Rattle.std.proofs.lemmas.List.{get_or_append_left, get_or_at}
use Rattle.map_defs.specs.Kind.{Kind, alpha, beta}
use Rattle.map_defs.specs.MeshMap.{Side, MapFault, Turned, has_ends, is_oriented, side_fault}
use Rattle.mesh_laws.proofs.SideFacts.{same-way, other-way}
use Rattle.mesh_laws.specs.Sides.{no_side, side_of}
use Rattle.reading_laws.specs.MeshFaults.{HaveSamePoints, IsEarlier, IsSideFault, third, turned}

points-same : (s t : Side) → has_ends s t ≡ true → HaveSamePoints t s
points-same s t e = elim (cases_eq s.from t.from) [
  | inl same ↦ inl (sym same, sym (same-way s t e same))
  | inr other ↦ let ends = other-way s t e other in inr (sym ends.1, sym ends.0)
]

ends-same : (s t : Side) → HaveSamePoints t s → has_ends s t ≡ true
ends-same s t same =
    rw (eq-eqb (min t.from t.to) (min s.from s.to) low, eq-eqb (max t.from t.to) (max s.from s.to) high) refl
  where
    low : min t.from t.to ≡ min s.from s.to
    low = elim same [ inl p ↦ omega arith | inr p ↦ omega arith ]

    high : max t.from t.to ≡ max s.from s.to
    high = elim same [ inl p ↦ omega arith | inr p ↦ omega arith ]

-- what a filter keeps, by places: nothing, one thing, or two and more
abbrev IsKept : (Side → Bool) → List Side → List Side → Type 0
IsKept test xs [] = (q : ℕ) → q < length xs → test (side_of xs q) ≡ true → ⊥
IsKept test xs (t ∷ []) = (q : ℕ) × (q < length xs) × (side_of xs q ≡ t) × (test (side_of xs q) ≡ true) × ((r : ℕ) → r < length xs → test (side_of xs r) ≡ true → r ≡ q)
IsKept test xs (t ∷ u ∷ more) = (q : ℕ) × (r : ℕ) × (q < r) × (r < length xs) × (test (side_of xs q) ≡ true) × (test (side_of xs r) ≡ true)

kept-on : (test : Side → Bool) (x : Side) (xs ys : List Side) (b : Bool) → test x ≡ b → IsKept test xs ys → IsKept test (x ∷ xs) (cond b (x ∷ ys) ys)
kept-on test x xs [] true e none = (0, omega arith, refl, e, only)
  where
    only : (r : ℕ) → r < suc (length xs) → test (side_of (x ∷ xs) r) ≡ true → r ≡ 0
    only zero h f = refl
    only (suc r) h f = absurd (none r (omega arith) f)
kept-on test x xs [] false e none = past
  where
    past : (q : ℕ) → q < suc (length xs) → test (side_of (x ∷ xs) q) ≡ true → ⊥
    past zero h f = cc
    past (suc q) h f = none q (omega arith) f
kept-on test x xs (t ∷ []) true e one = (0, suc one.0, omega arith, omega (arith, one.1), e, one.3)
kept-on test x xs (t ∷ []) false e one = (suc one.0, omega (arith, one.1), one.2, one.3, only)
  where
    only : (r : ℕ) → r < suc (length xs) → test (side_of (x ∷ xs) r) ≡ true → r ≡ suc one.0
    only zero h f = absurd (cc)
    only (suc r) h f = let same = one.4 r (omega arith) f in omega (arith, same)
kept-on test x xs (t ∷ u ∷ more) true e two = (suc two.0, suc two.1, omega (arith, two.2), omega (arith, two.3), two.4, two.5)
kept-on test x xs (t ∷ u ∷ more) false e two = (suc two.0, suc two.1, omega (arith, two.2), omega (arith, two.3), two.4, two.5)

is_kept : (test : Side → Bool) (xs : List Side) → IsKept test xs (filter test xs)
is_kept test [] = λ q h e. absurd (omega arith)
is_kept test (x ∷ xs) = kept-on test x xs (filter test xs) (test x) refl (is_kept test xs)

-- what was found is there, and nothing is there where nothing was found
abbrev pub Told : (MapFault → Type 0) → Option MapFault → Type 0
Told P None = (fault : MapFault) → P fault → ⊥
Told P (Some fault) = P fault

-- a side behind the earlier ones and before others
module _ (k : Kind) (f : ℕ) (earlier : List Side) (s : Side) (others : List Side) where
  abbrev sides : List Side
  sides = earlier ++ s ∷ others

  abbrev p : ℕ
  p = length earlier

  at-p : side_of sides p ≡ s
  at-p = get_or_at earlier s others no_side p refl

  at-before : (q : ℕ) → q < p → side_of sides q ≡ side_of earlier q
  at-before q h = get_or_append_left earlier (s ∷ others) no_side q h

  to-test : (q : ℕ) → IsEarlier sides p q → has_ends s (side_of earlier q) ≡ true
  to-test q e = ends-same s (side_of earlier q) (subst (λ (t : Side). HaveSamePoints t s) (at-before q e.0) (subst (HaveSamePoints (side_of sides q)) at-p e.1))

  of-test : (q : ℕ) → q < p → has_ends s (side_of earlier q) ≡ true → IsEarlier sides p q
  of-test q h e = (h, subst (HaveSamePoints (side_of sides q)) (sym at-p) (subst (λ (t : Side). HaveSamePoints t s) (sym (at-before q h)) (points-same s (side_of earlier q) e)))

  one-sound : (t : Side) → IsKept (has_ends s) earlier (t ∷ []) → is_oriented k && (t.from == s.from) ≡ false → (fault : MapFault) → IsSideFault k sides f p fault → ⊥
  one-sound t one test fault (third (q, r, eq, er, ne) is) = ne (one.4 q eq.0 (to-test q eq) ∙ sym (one.4 r er.0 (to-test r er)))
  one-sound t one test fault (turned b (q, eq, only, from) is) =
      let at : q ≡ one.0 = one.4 q eq.0 (to-test q eq) in
      let found : side_of sides q ≡ t = at-before q eq.0 ∙ (ap (side_of earlier) at ∙ one.2) in
      let same : t.from ≡ s.from = ap (λ (x : Side). x.from) (sym found) ∙ (from ∙ ap (λ (x : Side). x.from) at-p) in
      let both : is_oriented k && (t.from == s.from) ≡ true = rw (b, eq-eqb t.from s.from same) refl in
      both_ways (is_oriented k && (t.from == s.from)) test both

  one-told : (t : Side) → IsKept (has_ends s) earlier (t ∷ []) → (oriented : Bool) → is_oriented k ≡ oriented → (same : Bool) → t.from == s.from ≡ same
      → Told (IsSideFault k sides f p) (cond (oriented && same) (Some (Turned f)) None)
  one-told t one true o true e = turned (is_beta k o) (one.0, of-test one.0 one.1 one.3, λ r h. one.4 r h.0 (to-test r h), starts) refl
    where
      is_beta : (kind : Kind) → is_oriented kind ≡ true → kind ≡ beta
      is_beta alpha o = absurd (cc)
      is_beta beta o = refl

      starts : (side_of sides one.0).from ≡ (side_of sides p).from
      starts = ap (λ (x : Side). x.from) (at-before one.0 one.1 ∙ one.2) ∙ (eqb-true t.from s.from e ∙ ap (λ (x : Side). x.from) (sym at-p))
  one-told t one true o false e = one-sound t one (ap (λ (b : Bool). b && (t.from == s.from)) o ∙ e)
  one-told t one false o same e = one-sound t one (ap (λ (b : Bool). b && (t.from == s.from)) o)

  side-of-kept : (ys : List Side) → IsKept (has_ends s) earlier ys → Told (IsSideFault k sides f p) (side_fault k f s ys)
  side-of-kept [] none = nothing
    where
      nothing : (fault : MapFault) → IsSideFault k sides f p fault → ⊥
      nothing fault (third (q, r, eq, er, ne) is) = none q eq.0 (to-test q eq)
      nothing fault (turned b (q, eq, only, from) is) = none q eq.0 (to-test q eq)
  side-of-kept (t ∷ []) one = one-told t one (is_oriented k) refl (t.from == s.from) refl
  side-of-kept (t ∷ u ∷ more) (q, r, lt, h, e, g) = third (q, r, of-test q (omega arith) e, of-test r h g, λ (same : q ≡ r). absurd (omega arith)) refl

  pub side-told : Told (IsSideFault k sides f p) (side_fault k f s (filter (has_ends s) earlier))
  side-told = side-of-kept (filter (has_ends s) earlier) (is_kept (has_ends s) earlier)

-- a side has one fault at most
pub one-side-fault : (k : Kind) (all : List Side) (f p : ℕ) (x y : MapFault) → IsSideFault k all f p x → IsSideFault k all f p y → x ≡ y
one-side-fault k all f p x y (third a e) (third b g) = e ∙ sym g
one-side-fault k all f p x y (third (q, r, eq, er, ne) e) (turned o (t, et, only, from) g) = absurd (ne (only q eq ∙ sym (only r er)))
one-side-fault k all f p x y (turned o (t, et, only, from) g) (third (q, r, eq, er, ne) e) = absurd (ne (only q eq ∙ sym (only r er)))
one-side-fault k all f p x y (turned o a e) (turned n b g) = e ∙ sym g
