-- The darts of two sides with the same two points are sewn, where the map can be told by its faces.
use Rattle.std.proofs.Common.{ℕ, ◌≡◌, ◌≢◌, ◌<◌, ◌⊎◌, min, max, true, List, length, slice_index, inl, inr, refl, sym, ap, subst, ◌∙◌, eq-eqb, arith}
use Rattle.std.proofs.lemmas.Bool.{cases_eq}
use Rattle.map_defs.specs.Kind.{Kind, alpha, beta}
use Rattle.map_defs.specs.Links.{Links, LeadsToLive}
use Rattle.map_defs.specs.Laws.{Laws}
use Rattle.map_defs.specs.Rows.{Rows, IsLive, links_of, IsSound}
use Rattle.map_defs.specs.MeshMap.{Side, sides_of, has_ends}
use Rattle.map_defs.specs.OffOfMap.{next_round, ListsCells}
use Rattle.link_laws.proofs.LawFacts.{link_one}
use Rattle.mesh_laws.specs.Sides.{side_of}
use Rattle.mesh_laws.proofs.SideFacts.{same-way, other-way}
use Rattle.reading_laws.specs.MeshFaults.{HaveSamePoints}
use Rattle.off_laws.specs.ReadBack.{MeetsAt, AreSidesSewn}
use Rattle.off_laws.specs.SideDarts.{IsOfSide, AreSideDarts}
use Rattle.off_laws.proofs.RenumberedPlaces.{ahead, place-same, next-there, dart-some, ends}

-- the two forms of "two sides have the same two points"
pub points-same : (s t : Side) → has_ends s t ≡ true → HaveSamePoints s t
points-same s t e = elim (cases_eq s.from t.from) [ inl same ↦ inl (same, same-way s t e same) | inr other ↦ inr (other-way s t e other) ]

pub ends-same : (s t : Side) → HaveSamePoints s t → has_ends s t ≡ true
ends-same s t same =
    rw (eq-eqb (min t.from t.to) (min s.from s.to) low, eq-eqb (max t.from t.to) (max s.from s.to) high) refl
  where
    low : min t.from t.to ≡ min s.from s.to
    low = elim same [ inl p ↦ omega arith | inr p ↦ omega arith ]

    high : max t.from t.to ≡ max s.from s.to
    high = elim same [ inl p ↦ omega arith | inr p ↦ omega arith ]

pub points-turned : (s t : Side) → HaveSamePoints s t → HaveSamePoints t s
points-turned s t (inl p) = inl (sym p.0, sym p.1)
points-turned s t (inr p) = inr (sym p.1, sym p.0)

-- the dart of a side that link 2 joins to that of a side which leads the other way
abbrev pub opposite : Kind → Links → ℕ → ℕ
opposite alpha L y = L 0 y
opposite beta L y = y

same-joined : (k : Kind) (Live : ℕ → Type 0) (L : Links) (x y : ℕ) → AreSidesSewn k Live L → Live x → Live y → x ≢ y → MeetsAt k L x y → MeetsAt k L (ahead k L x) (ahead k L y)
    → (k ≡ alpha) × (L 2 x ≡ y)
same-joined alpha Live L x y sewn lx ly ne one two = elim (sewn x y lx ly one two) [ inl same ↦ absurd (ne same) | inr joined ↦ (refl, joined) ]
same-joined beta Live L x y sewn lx ly ne one two = absurd (ne ((sewn x y lx ly).0 one two))

other-joined : (k : Kind) (Live : ℕ → Type 0) (L : Links) (x y : ℕ) → Laws k L → LeadsToLive Live L → AreSidesSewn k Live L → Live x → Live y → ahead k L y ≢ 0 → (k ≡ alpha → x ≢ L 0 y)
    → MeetsAt k L x (ahead k L y) → MeetsAt k L (ahead k L x) y → L 2 x ≡ opposite k L y
other-joined alpha Live L x y w leads sewn lx ly some ne one two =
    let back : L 0 (L 0 y) ≡ y = w.back 0 y some in
    elim (sewn x (L 0 y) lx (leads 0 y some) one (subst (MeetsAt alpha L (L 0 x)) (sym back) two)) [ inl same ↦ absurd (ne refl same) | inr joined ↦ joined ]
other-joined beta Live L x y w leads sewn lx ly some ne one two = (sewn x y lx ly).1 one two

opposite-of : (k : Kind) (L : Links) (darts : List ℕ) (j d : ℕ) → d ≡ opposite k L (slice_index darts j) → IsOfSide k L darts j d
opposite-of alpha L darts j d e = inr (sym e)
opposite-of beta L darts j d e = sym e

itself-of : (k : Kind) (L : Links) (darts : List ℕ) (j d : ℕ) → k ≡ alpha → d ≡ slice_index darts j → IsOfSide k L darts j d
itself-of alpha L darts j d is e = inl (sym e)
itself-of beta L darts j d is e = absurd (cc (is))

-- a dart of a side is its first dart or its other
pub of-cases : (k : Kind) (L : Links) (darts : List ℕ) (j d : ℕ) → IsOfSide k L darts j d → (slice_index darts j ≡ d) ⊎ ((k ≡ alpha) × (L 0 (slice_index darts j) ≡ d))
of-cases alpha L darts j d (inl e) = inl e
of-cases alpha L darts j d (inr e) = inr (refl, e)
of-cases beta L darts j d e = inl e

-- where the way round leads on, there is a dart ahead
pub ahead-some : (k : Kind) (L : Links) → Laws k L → (x : ℕ) → next_round k L x ≢ 0 → ahead k L x ≢ 0
ahead-some alpha L w x some none = some (ap (L 1) none ∙ w.nil 1)
ahead-some beta L w x some none = some none

module _ (k : Kind) (n : ℕ) (rows : Rows) (sound : IsSound k n rows) (w : Laws k (links_of rows)) (vertices : List ℕ) (listed : ListsCells k rows 0 vertices)
    (faces : List (List ℕ)) (darts : List ℕ) (s : AreSideDarts k (IsLive rows) (links_of rows) vertices faces darts) where
  abbrev L : Links
  L = links_of rows

  abbrev dart : ℕ → ℕ
  dart i = slice_index darts i

  abbrev side : ℕ → Side
  side i = side_of (sides_of faces) i

  pub dart-ahead : (i : ℕ) → i < length darts → ahead k L (dart i) ≢ 0
  dart-ahead i h = ahead-some k L w (dart i) (λ none. dart-some k n rows sound w vertices listed faces darts s (side i).next (next-there k n rows sound w vertices listed faces darts s i h) (sym (s.next i h) ∙ none))

  -- a dart is one of a single side
  pub side-one : (i j d : ℕ) → i < length darts → j < length darts → IsOfSide k L darts i d → IsOfSide k L darts j d → i ≡ j
  side-one i j d hi hj one two = go (of-cases k L darts i d one) (of-cases k L darts j d two)
    where
      go : (dart i ≡ d) ⊎ ((k ≡ alpha) × (L 0 (dart i) ≡ d)) → (dart j ≡ d) ⊎ ((k ≡ alpha) × (L 0 (dart j) ≡ d)) → i ≡ j
      go (inl a) (inl b) = s.apart i j hi hj (a ∙ sym b)
      go (inl a) (inr b) = absurd (s.other i j b.0 hi hj (a ∙ sym b.1))
      go (inr a) (inl b) = absurd (s.other j i a.0 hj hi (b ∙ sym a.1))
      go (inr a) (inr b) = s.apart i j hi hj (link_one k L w 0 (dart i) (dart j) (zero-some a.0) (a.1 ∙ sym b.1))
        where
          zero-some : k ≡ alpha → L 0 (dart i) ≢ 0
          zero-some is = subst (λ (kind : Kind). ahead kind L (dart i) ≢ 0) is (dart-ahead i hi)

  pub zero-there : k ≡ alpha → (i : ℕ) → i < length darts → L 0 (dart i) ≢ 0
  zero-there is i h = subst (λ (kind : Kind). ahead kind L (dart i) ≢ 0) is (dart-ahead i h)

  -- the darts of a side live
  pub of-live : (i d : ℕ) → i < length darts → IsOfSide k L darts i d → IsLive rows d
  of-live i d h of = elim (of-cases k L darts i d of) [
    | inl e ↦ subst (IsLive rows) e (s.live i h)
    | inr e ↦ subst (IsLive rows) e.1 (sound.live 0 (dart i) (zero-there e.0 i h))
  ]

  module _ (sewn : AreSidesSewn k (IsLive rows) L) where
    -- two sides that lead the same way: their darts are joined, in a generalized map
    pub same-sewn : (i j : ℕ) → i < length darts → j < length darts → i ≢ j → (side i).from ≡ (side j).from → (side i).to ≡ (side j).to → (k ≡ alpha) × (L 2 (dart i) ≡ dart j)
    same-sewn i j hi hj ne from to =
        same-joined k (IsLive rows) L (dart i) (dart j) sewn (s.live i hi) (s.live j hj) (λ e. ne (s.apart i j hi hj e))
        (place-same k n rows sound w vertices listed (dart i) (dart j) (side i).from (side j).from (s.starts i hi) (s.starts j hj) from)
        (place-same k n rows sound w vertices listed (ahead k L (dart i)) (ahead k L (dart j)) (side i).to (side j).to (ends k n rows sound w vertices listed faces darts s i hi) (ends k n rows sound w vertices listed faces darts s j hj) to)

    pub other-sewn : (i j : ℕ) → i < length darts → j < length darts → (side i).from ≡ (side j).to → (side i).to ≡ (side j).from → L 2 (dart i) ≡ opposite k L (dart j)
    other-sewn i j hi hj from to =
        other-joined k (IsLive rows) L (dart i) (dart j) w sound.live sewn (s.live i hi) (s.live j hj) (dart-ahead j hj) (λ is. s.other i j is hi hj)
        (place-same k n rows sound w vertices listed (dart i) (ahead k L (dart j)) (side i).from (side j).to (s.starts i hi) (ends k n rows sound w vertices listed faces darts s j hj) from)
        (place-same k n rows sound w vertices listed (ahead k L (dart i)) (dart j) (side i).to (side j).from (ends k n rows sound w vertices listed faces darts s i hi) (s.starts j hj) to)

    -- link 2 leads from a side to the other one with the same two points
    pub joined-of : (i j : ℕ) → i < length darts → j < length darts → i ≢ j → HaveSamePoints (side i) (side j) → IsOfSide k L darts j (L 2 (dart i))
    joined-of i j hi hj ne (inl p) = let joined = same-sewn i j hi hj ne p.0 p.1 in itself-of k L darts j (L 2 (dart i)) joined.0 joined.1
    joined-of i j hi hj ne (inr p) = opposite-of k L darts j (L 2 (dart i)) (other-sewn i j hi hj p.0 p.1)
