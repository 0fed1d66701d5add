-- Signs, faults, origins and the half are determined: what is said of them holds of one alone.
use Rattle.std.proofs.Common.{ℕ, zero, suc, ◌≡◌, ◌≢◌, ◌⊎◌, ◌≤◌, ◌<◌, ◌%◌, inl, inr, refl, sym, ap, ap₂, subst, ◌∙◌, List, [], ◌∷◌, length, All, Contains, Bool, true, false, not, true≢false, arith}
use Rattle.std.proofs.lemmas.List.Elements.{All-head, All-tail}
use Rattle.std.specs.List.Sorted.{IsStrictlyIncreasing}
use Rattle.map_defs.specs.Kind.{alpha}
use Rattle.map_defs.specs.Links.{Links, HasDimension, LeadsToLive}
use Rattle.map_defs.specs.Cells.{InOrbit, here, onward, IsLinked, InComponent, NamesComponent}
use Rattle.map_defs.specs.Laws.{Laws}
use Rattle.link_laws.proofs.Orbits.{orbit_trans}
use Rattle.link_laws.proofs.InverseLinks.{turned_one}
use Rattle.value_laws.proofs.Rising.{rising_one, has_least}
use Rattle.half_defs.specs.Orientation.{IsFirstFold, walked, IsOddWalk, Sign, darts_of, AreSigns, OrientFault, Boundary, Folded, Odd, HasFault, IsOriented}
use Rattle.half_defs.specs.Halves.{AreOrigins, IsHalf}
use Rattle.half_laws.proofs.HalfRanks.{within_or_above, rank_one}
use Rattle.half_laws.proofs.HalfSigns.{sign_is, dart_listed, sign_at, led_live}

-- two lists of the origins with one property are one
pub origins_one : (Has : ℕ → Type 0) (a b : List ℕ) → AreOrigins Has a → AreOrigins Has b → a ≡ b
origins_one Has a b p q = rising_one a b p.ascending q.ascending (λ d. (λ m. (q.members d).1 ((p.members d).0 m), λ m. (p.members d).1 ((q.members d).0 m)))

same_bool : (a b : Bool) → ((a ≡ b → ⊥) → ⊥) → a ≡ b
same_bool true true h = refl
same_bool false false h = refl
same_bool true false h = absurd (h true≢false)
same_bool false true h = absurd (h (λ e. true≢false (sym e)))

not_one : (a b : Bool) → not a ≡ not b → a ≡ b
not_one true true e = refl
not_one false false e = refl
not_one true false e = sym e
not_one false true e = sym e

not_same : (a : Bool) → a ≡ not a → ⊥
not_same true e = true≢false e
not_same false e = true≢false (sym e)

-- lists of signs are one if their darts are, and each dart has one sign
same_signs : (s t : List Sign) → darts_of s ≡ darts_of t → ((x y : Sign) → Contains s x → Contains t y → x.dart ≡ y.dart → x.positive ≡ y.positive) → s ≡ t
same_signs [] [] e f = refl
same_signs [] (y ∷ ys) e f = absurd (let g : 0 ≡ suc (length (darts_of ys)) = ap length e in omega arith)
same_signs (x ∷ xs) [] e f = absurd (let g : suc (length (darts_of xs)) ≡ 0 = ap length e in omega arith)
same_signs (x ∷ xs) (y ∷ ys) e f = ap₂ (◌∷◌) (sign_is x y first (f x y (held x xs) (held y ys) first)) (same_signs xs ys (ap rest e) (λ u v cu cv g. f u v (later x xs u cu) (later y ys v cv) g))
  where
    rest : List ℕ → List ℕ
    rest [] = []
    rest (d ∷ ds) = ds

    head : List ℕ → ℕ
    head [] = 0
    head (d ∷ ds) = d

    first : x.dart ≡ y.dart
    first = ap head e

    held : (u : Sign) (us : List Sign) → Contains (u ∷ us) u
    held u us = (0, omega arith, refl)

    later : (u : Sign) (us : List Sign) (v : Sign) → Contains us v → Contains (u ∷ us) v
    later u us v h = (suc h.0, (let g = h.1 in omega arith), h.2)

-- Two lists of signs of one map agree at each dart, since they do at the least dart of its component. That a component has a
-- least dart is used only for an equation of signs, which is told.
module _ (n : ℕ) (Live : ℕ → Type 0) (L : Links) (to : LeadsToLive Live L) (dim : HasDimension n L) (s t : List Sign) (p : AreSigns n Live L s) (q : AreSigns n Live L t) where
  -- the two lists have one sign for d, if they have one
  Agree : ℕ → Type 0
  Agree d = (x y : Sign) → Contains s x → Contains t y → x.dart ≡ d → y.dart ≡ d → x.positive ≡ y.positive

  agree_back : (i d : ℕ) → L i d ≢ 0 → Agree (L i d) → Agree d
  unfolding Agree
  agree_back i d m agree x y cx cy ex ey = not_one x.positive y.positive (sym fx ∙ (agree u.0 v.0 u.1 v.1 u.2 v.2 ∙ fy))
    where
      within : i ≤ n
      within = elim (within_or_above n i) [ inl l ↦ l | inr l ↦ absurd (m (dim i d l)) ]

      u : (z : Sign) × Contains s z × (z.dart ≡ L i d)
      u = sign_at s (L i d) ((p.members (L i d)).1 (to i d m))

      v : (z : Sign) × Contains t z × (z.dart ≡ L i d)
      v = sign_at t (L i d) ((q.members (L i d)).1 (to i d m))

      fx : u.0.positive ≡ not x.positive
      fx = p.flips x u.0 i cx u.1 within (ap (L i) ex ∙ sym u.2)

      fy : v.0.positive ≡ not y.positive
      fy = q.flips y v.0 i cy v.1 within (ap (L i) ey ∙ sym v.2)

  agree_from : (d m : ℕ) → InOrbit (IsLinked L) d m → Agree m → Agree d
  agree_from d m here agree = agree
  agree_from d m (onward {x = u} {y = v} c (i, e, k)) agree = agree_from d u c (agree_back i u (λ z. k (sym e ∙ z)) (rw e agree))

  agree_least : (m : ℕ) → NamesComponent L m → Agree m
  unfolding Agree
  agree_least m least x y cx cy ex ey = p.least x cx (rw ex least) ∙ sym (q.least y cy (rw ey least))

  agree_all : (d : ℕ) → Agree d
  unfolding Agree
  agree_all d x y cx cy ex ey = same_bool x.positive y.positive (λ differ. has_least (InComponent L d) d here
      (λ m c least. differ (agree_from d m c (agree_least m (λ e f. least e (orbit_trans (IsLinked L) d m e c f))) x y cx cy ex ey)))

  pub signs_one : s ≡ t
  unfolding Agree
  signs_one = same_signs s t (rising_one (darts_of s) (darts_of t) p.ascending q.ascending (λ d. (λ m. (q.members d).1 ((p.members d).0 m), λ m. (p.members d).1 ((q.members d).0 m))))
      (λ x y cx cy e. agree_all x.dart x y cx cy refl (sym e))

-- An oriented map has no fault: on an odd walk the sign is flipped an odd number of times, so it does not lead back.
flips_of : ℕ → Bool → Bool
flips_of zero b = b
flips_of (suc k) b = flips_of k (not b)

odd_flips : (k : ℕ) (b : Bool) → k % 2 ≡ 1 → flips_of k b ≡ not b
unfolding flips_of
odd_flips zero b e = absurd (omega arith)
odd_flips (suc zero) b e = refl
odd_flips (suc (suc k)) b e = odd_flips k (not (not b)) (less k e) ∙ ap not (twice_not b)
  where
    less : (k : ℕ) → suc (suc k) % 2 ≡ 1 → k % 2 ≡ 1
    less k e = omega arith

    twice_not : (b : Bool) → not (not b) ≡ b
    twice_not true = refl
    twice_not false = refl

module _ (n : ℕ) (Live : ℕ → Type 0) (L : Links) (w : Laws alpha L) (to : LeadsToLive Live L) (signs : List Sign) (o : IsOriented n Live L signs) where
  -- a dart has one sign, since it has one at the dart at its link 0
  sign_one : (x y : Sign) → Contains signs x → Contains signs y → x.dart ≡ y.dart → x.positive ≡ y.positive
  sign_one x y cx cy e =
      let live : Live (L 0 x.dart) = led_live n Live L w to signs o 0 x.dart (omega arith) (live_of x cx) in
      let u : (z : Sign) × Contains signs z × (z.dart ≡ L 0 x.dart) = sign_at signs (L 0 x.dart) ((o.signed.members (L 0 x.dart)).1 live) in
      let fx : u.0.positive ≡ not x.positive = o.signed.flips x u.0 0 cx u.1 (omega arith) (sym u.2) in
      let fy : u.0.positive ≡ not y.positive = o.signed.flips y u.0 0 cy u.1 (omega arith) (ap (L 0) (sym e) ∙ sym u.2) in
      not_one x.positive y.positive (sym fx ∙ fy)
    where
      live_of : (z : Sign) → Contains signs z → Live z.dart
      live_of z c = (o.signed.members z.dart).0 (dart_listed signs z c)

  walk_flips : (links : List ℕ) (d : ℕ) (x y : Sign) → All (λ i. i ≤ n) links → Contains signs x → Contains signs y → x.dart ≡ d → y.dart ≡ walked L d links → y.positive ≡ flips_of (length links) x.positive
  unfolding flips_of
  walk_flips [] d x y within cx cy ex ey = sign_one y x cy cx (ey ∙ sym ex)
  walk_flips (i ∷ links) d x y within cx cy ex ey =
      let l : i ≤ n = All-head (λ i. i ≤ n) i links within in
      let live : Live d = subst Live ex ((o.signed.members x.dart).0 (dart_listed signs x cx)) in
      let u : (z : Sign) × Contains signs z × (z.dart ≡ L i d) = sign_at signs (L i d) ((o.signed.members (L i d)).1 (led_live n Live L w to signs o i d l live)) in
      let fx : u.0.positive ≡ not x.positive = o.signed.flips x u.0 i cx u.1 l (ap (L i) ex ∙ sym u.2) in
      walk_flips links (L i d) u.0 y (All-tail (λ i. i ≤ n) i links within) u.1 cy u.2 ey ∙ ap (flips_of (length links)) fx

  no_odd_walk : (d : ℕ) (links : List ℕ) → Live d → IsOddWalk n L d links → ⊥
  no_odd_walk d links live walk =
      let x : (z : Sign) × Contains signs z × (z.dart ≡ d) = sign_at signs d ((o.signed.members d).1 live) in
      not_same x.0.positive (walk_flips links d x.0 x.0 walk.within x.1 x.1 x.2 (x.2 ∙ sym walk.closed) ∙ odd_flips (length links) x.0.positive walk.odd)

  pub no_fault : (f : OrientFault) → HasFault n Live L f → ⊥
  no_fault Boundary h = o.closed h
  no_fault (Folded d i) h = o.unfolded d i h.1.folded
  no_fault (Odd d links) h = no_odd_walk d links h.2.live h.2.walk

-- Two faults of one map are one, but for the links of an odd walk.
module _ (n : ℕ) (Live : ℕ → Type 0) (L : Links) where
  pub boundary_alone : (f : OrientFault) → HasFault n Live L Boundary → HasFault n Live L f → f ≡ Boundary
  boundary_alone Boundary h g = refl
  boundary_alone (Folded d i) h g = absurd (g.0 h)
  boundary_alone (Odd d links) h g = absurd (g.0 h)

  same_fold : (d e i j : ℕ) → IsFirstFold n Live L d i → IsFirstFold n Live L e j → (e ≡ d) × (j ≡ i)
  same_fold d e i j p q = go (p.least e j q.folded) (q.least d i p.folded)
    where
      go : (d < e) ⊎ ((d ≡ e) × (i ≤ j)) → (e < d) ⊎ ((e ≡ d) × (j ≤ i)) → (e ≡ d) × (j ≡ i)
      go (inl a) (inl b) = absurd (omega arith)
      go (inl a) (inr b) = absurd (let g = b.0 in omega arith)
      go (inr a) (inl b) = absurd (let g = a.0 in omega arith)
      go (inr a) (inr b) = (b.0, (let g = a.1 in let k = b.1 in omega arith))

  pub fold_alone : (d i : ℕ) (f : OrientFault) → HasFault n Live L (Folded d i) → HasFault n Live L f → f ≡ Folded d i
  fold_alone d i Boundary h g = absurd (h.0 g)
  fold_alone d i (Folded e j) h g = let s : (e ≡ d) × (j ≡ i) = same_fold d e i j h.1 g.1 in ap₂ Folded s.0 s.1
  fold_alone d i (Odd e links) h g = absurd (g.1 d i h.1.folded)

  pub odd_alone : (d : ℕ) (links : List ℕ) (f : OrientFault) → HasFault n Live L (Odd d links) → HasFault n Live L f → (others : List ℕ) × (f ≡ Odd d others)
  odd_alone d links Boundary h g = absurd (h.0 g)
  odd_alone d links (Folded e j) h g = absurd (h.1 e j g.1.folded)
  odd_alone d links (Odd e others) h g = (others, ap (λ c. Odd c others) same)
    where
      same : e ≡ d
      same = let a : d ≤ e = h.2.least e others g.2.live g.2.walk in let b : e ≤ d = g.2.least d links h.2.live h.2.walk in omega arith

-- the half by these origins is one
pub half_one : (n : ℕ) (L : Links) (origins : List ℕ) → IsStrictlyIncreasing origins → (Contains origins 0 → ⊥) → (N M : Links) → IsHalf n L origins N → IsHalf n L origins M → (i r : ℕ) → N i r ≡ M i r
half_one n L origins rising some N M p q = all
  where
    above_zero : (i r : ℕ) → 1 ≤ i → N i r ≡ M i r
    above_zero i r one = elim (within_or_above n i) [
      | inl l ↦ rank_one origins rising some (N i r) (M i r) (p.within i r) (q.within i r) (p.along i r one l ∙ sym (q.along i r one l))
      | inr l ↦ p.above i r l ∙ sym (q.above i r l)
    ]

    all : (i r : ℕ) → N i r ≡ M i r
    all zero r = turned_one N M p.turned q.turned (λ x. above_zero 1 x (omega arith)) r
    all (suc i) r = above_zero (suc i) r (omega arith)
