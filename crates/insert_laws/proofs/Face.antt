-- The face that is inserted in a map of either kind is an insertion in general.
use Rattle.std.proofs.Common.{ℕ, zero, suc, ◌≡◌, ◌≢◌, ◌+◌, ◌≤◌, ◌⊎◌, refl, sym, inl, inr, ⊎_elim, ◌∙◌, arith, List, Contains}
use Rattle.map_defs.specs.Kind.{Kind, alpha, beta, inverse, IsDistant}
use Rattle.map_defs.specs.Links.{Links}
use Rattle.map_defs.specs.Laws.{Laws}
use Rattle.map_defs.specs.Cells.{InOrbit, here, onward}
use Rattle.map_defs.specs.Pairs.{seed, turned, across, IsGood}
use Rattle.map_defs.specs.Insertion.{IsJustBelow, IsInsertable, GoesAlong, IsCarrying, IsPairing, IsLinkedBy, IsNext, FaceDarts, FaceSeed, FacePairs, IsClosedPath, IsFacePaired, IsFace}
use Rattle.map_defs.specs.Births.{IsFresh}
use Rattle.link_laws.proofs.Basics.{distant_alpha, distant_alpha_is, distant_high, inverse_own}
use Rattle.link_laws.proofs.LawFacts.{alike, dart_of_link}
use Rattle.insert_laws.proofs.Places.{below_inverse}
use Rattle.link_laws.proofs.Orbits.{orbit_dart}
use Rattle.insert_laws.proofs.InsertSquare.{insertion_keeps}
use Rattle.insert_laws.proofs.Paths.{next_held, has_next, is_next}

-- a link along which a face's pairs go is its own inverse and carries the face
pub face_link : (k : Kind) (j : ℕ) → IsPairing 2 j → (inverse k j ≡ j) × IsCarrying k 2 j
face_link k j (inl e) = (inverse_own k j (omega arith), inl e)
face_link k j (inr p) = (inverse_own k j (omega arith), inr (distant_high k 2 j (omega arith) p))

-- a link distant from link 2 is a higher one, or link 0 of a generalized map
far_from_two : (j : ℕ) → IsDistant alpha 2 j → (2 + 2 ≤ j) ⊎ (j ≡ 0)
far_from_two j f = ⊎_elim (λ (p : 2 + 2 ≤ j). inl p) (λ (p : j + 2 ≤ 2). inr (omega arith)) (distant_alpha_is 2 j f)

far_from_two_beta : (j : ℕ) → IsDistant beta 2 j → 2 + 2 ≤ j
unfolding IsDistant
far_from_two_beta zero f = absurd (⊎_elim (λ (p : 2 + 2 ≤ 1). omega arith) (λ (p : 1 + 2 ≤ 2). omega arith) f)
far_from_two_beta (suc j) f = ⊎_elim (λ (p : 2 + 2 ≤ suc j). p) (λ (p : suc j + 2 ≤ 2). absurd (omega arith)) f

-- the pairs of a face have to go along the links that they go along
goes_pairing : (k : Kind) (t j : ℕ) → IsJustBelow k 2 t → GoesAlong k 2 t j → IsPairing 2 j
goes_pairing k t j b (inl e) = inl e
goes_pairing alpha t j b (inr f) = inr (⊎_elim (λ p. p)
    (λ (z : j ≡ 0). absurd (⊎_elim (λ (p : t + 2 ≤ j). omega arith) (λ (p : j + 2 ≤ t). omega arith) (distant_alpha_is t j f.1)))
    (far_from_two j f.0))
goes_pairing beta t j b (inr f) = inr (far_from_two_beta j f.0)

-- no dart of the path is free where its side ends
abbrev pub HasEnds : Kind → Links → List ℕ → Type 0
HasEnds alpha L path = (b : ℕ) → Contains path b → L 0 b ≢ 0
HasEnds beta L path = Unit {0}

path_dart : (k : Kind) (L : Links) (path : List ℕ) (b : ℕ) → Contains path b → FaceDarts k L path b
path_dart k L path b h = (b, h, here)

face_carried : (k : Kind) (L : Links) (path : List ℕ) (x j : ℕ) → FaceDarts k L path x → IsCarrying k 2 j → L j x ≢ 0 → FaceDarts k L path (L j x)
face_carried k L path x j (b, h, o) a n = (b, h, onward o (j, a, refl, n))

-- both darts of a pair are darts of the face, and its link is one below link 2
abbrev pub IsFacePair : Kind → Links → List ℕ → ℕ → ℕ → ℕ → Type 0
IsFacePair k L path x y t = FaceDarts k L path x × FaceDarts k L path y × IsJustBelow k 2 t

seed_in : (k : Kind) (L : Links) (path : List ℕ) → HasEnds k L path → (x y t : ℕ) → FaceSeed k L path x y t → IsFacePair k L path x y t
seed_in alpha L path ends x y t (b, n, e, l) =
    let h : Contains path b × Contains path y = next_held path b y n in
    (rw e (face_carried alpha L path b 0 (path_dart alpha L path b h.0) (inr (distant_alpha 2 0 (inr (omega arith)))) (ends b h.0)), path_dart alpha L path y h.1, omega arith)
seed_in beta L path ends x y t (n, l) =
    let h : Contains path y × Contains path x = next_held path y x n in
    (path_dart beta L path x h.1, path_dart beta L path y h.0, rw l refl)

module _ (k : Kind) (L : Links) (path : List ℕ) (ends : HasEnds k L path) (good : IsGood k L (IsPairing 2) (FacePairs k L path)) where
  pub face_pair : (x y t : ℕ) → FacePairs k L path x y t → IsFacePair k L path x y t
  face_pair x y t (seed s) = seed_in k L path ends x y t s
  face_pair x y t (turned {x = u} {y = v} {t = c} p) = let h : IsFacePair k L path u v c = face_pair u v c p in (h.1, h.0, below_inverse k 2 c h.2)
  face_pair x y t (across {x = u} {y = v} {t = c} j a p hu hv) =
      let h : IsFacePair k L path u v c = face_pair u v c p in
      let g : (inverse k j ≡ j) × IsCarrying k 2 j = face_link k j a in
      (face_carried k L path u j h.0 g.1 hu, face_carried k L path v (inverse k j) h.1 (rw g.0 g.1) hv, below_inverse k 2 c h.2)

  face_on : (x y t j : ℕ) → FacePairs k L path x y t → IsPairing 2 j → L j x ≢ 0 → FacePairs k L path (L j x) (L (inverse k j) y) (inverse k t)
  face_on x y t j p a n = across j a p n (λ o. n ((good.even x y t j p a).1 o))

  goes : (x y t j : ℕ) → FacePairs k L path x y t → GoesAlong k 2 t j → IsPairing 2 j
  goes x y t j p g = goes_pairing k t j (face_pair x y t p).2 g

  face_can_if : ((b : ℕ) → Contains path b → b ≢ 0) → ((x t : ℕ) → FaceDarts k L path x → IsJustBelow k 2 t → (y : ℕ) × FacePairs k L path x y t) → IsInsertable k 2 (FaceDarts k L path) (FacePairs k L path) L
  face_can_if darts pairs = record {
    own = inverse_own k 2 (omega arith);
    dart = λ x h. orbit_dart _ (λ u v s. s.3) h.0 x (darts h.0 h.1) h.2;
    carried = face_carried k L path;
    some = λ x t h b nope. let q : (y : ℕ) × FacePairs k L path x y t = pairs x t h b in nope q.0 q.1;
    begins = λ x y t p. let h : IsFacePair k L path x y t = face_pair x y t p in (h.0, h.2);
    ends = λ x y t p n. (face_pair x y t p).1;
    turned = λ x y t p n. turned p;
    moves = good.moves;
    across = λ x y t j p g n. face_on x y t j p (goes x y t j p g) n;
    even = λ x y t j p g. (good.even x y t j p (goes x y t j p g)).0;
  }

-- each dart of the face has a pair: in a generalized map so has the dart at its link 0
pub data IsPairedTwice (L : Links) (path : List ℕ) (x : ℕ) : Type 0 where
  twice : (y z : ℕ) → FacePairs alpha L path x y 1 → L 0 x ≢ 0 → FacePairs alpha L path (L 0 x) z 1 → IsPairedTwice L path x

module _ (L : Links) (w : Laws alpha L) (path : List ℕ) (ends : HasEnds alpha L path) (good : IsGood alpha L (IsPairing 2) (FacePairs alpha L path)) where
  twice_begin : (b : ℕ) → Contains path b → IsPairedTwice L path b
  twice_begin b h =
      let c : (c : ℕ) × IsNext path b c = has_next path b h in
      let a : (a : ℕ) × IsNext path a b = is_next path b h in
      twice (L 0 a.0) c.0 (turned (seed (a.0, a.1, refl, refl))) (ends b h) (seed (b, c.1, refl, refl))

  twice_on : (x j : ℕ) → IsPairedTwice L path x → IsCarrying alpha 2 j → L j x ≢ 0 → IsPairedTwice L path (L j x)
  twice_on x j (twice y z p n q) a hj = ⊎_elim (λ c. same c) (λ (e : j ≡ 0). other e) (cases a)
    where
      cases : IsCarrying alpha 2 j → IsPairing 2 j ⊎ (j ≡ 0)
      cases (inl e) = inl (inl e)
      cases (inr f) = ⊎_elim (λ (l : 2 + 2 ≤ j). inl (inr l)) (λ (e : j ≡ 0). inr e) (far_from_two j f)

      far_zero : IsPairing 2 j → IsDistant alpha 0 j
      far_zero (inl e) = distant_alpha 0 j (inl (omega arith))
      far_zero (inr l) = distant_alpha 0 j (inl (omega arith))

      same : IsPairing 2 j → IsPairedTwice L path (L j x)
      same c =
          let e : L 0 (L j x) ≡ L j (L 0 x) = w.square 0 j x (far_zero c) in
          let g : L j (L 0 x) ≢ 0 = λ o. hj ((alike alpha L w 0 j x (far_zero c) n).1 o) in
          twice (L j y) (L j z) (face_on alpha L path ends good x y 1 j p c hj) (λ o. g (sym e ∙ o)) (rw e (face_on alpha L path ends good (L 0 x) z 1 j q c g))

      other : j ≡ 0 → IsPairedTwice L path (L j x)
      other e =
          let b : L 0 (L 0 x) ≡ x = w.back 0 x n in
          rw e (twice z y q (λ o. dart_of_link alpha L w 0 x n (sym b ∙ o)) (rw b p))

  twice_step : (x x' : ℕ) → IsLinkedBy L (IsCarrying alpha 2) x x' → IsPairedTwice L path x → IsPairedTwice L path x'
  twice_step x x' (j, a, e, n) q = rw (← e) (twice_on x j q a (λ o. n (sym e ∙ o)))

  twice_all : (b x : ℕ) → Contains path b → InOrbit (IsLinkedBy L (IsCarrying alpha 2)) b x → IsPairedTwice L path x
  twice_all b x h here = twice_begin b h
  twice_all b x h (onward {x = u} {y = v} o s) = twice_step u v s (twice_all b u h o)

  first_pair : (x : ℕ) → IsPairedTwice L path x → (y : ℕ) × FacePairs alpha L path x y 1
  first_pair x (twice y z p n q) = (y, p)

  pub alpha_face_can : ((b : ℕ) → Contains path b → b ≢ 0) → IsInsertable alpha 2 (FaceDarts alpha L path) (FacePairs alpha L path) L
  alpha_face_can darts = face_can_if alpha L path ends good darts (λ x t h b.
      let e : t ≡ 1 = omega arith in rw e (first_pair x (twice_all h.0 x h.1 h.2)))

-- in a combinatorial map it is paired at link 0 and at link 1
pub data IsPairedBoth (L : Links) (path : List ℕ) (x : ℕ) : Type 0 where
  both : (y z : ℕ) → FacePairs beta L path x y 0 → FacePairs beta L path x z 1 → IsPairedBoth L path x

module _ (L : Links) (path : List ℕ) (good : IsGood beta L (IsPairing 2) (FacePairs beta L path)) where
  both_begin : (b : ℕ) → Contains path b → IsPairedBoth L path b
  both_begin b h =
      let c : (c : ℕ) × IsNext path b c = has_next path b h in
      let a : (a : ℕ) × IsNext path a b = is_next path b h in
      both c.0 a.0 (turned (seed (c.1, refl))) (seed (a.1, refl))

  both_on : (x j : ℕ) → IsPairedBoth L path x → IsPairing 2 j → L j x ≢ 0 → IsPairedBoth L path (L j x)
  both_on x j (both y z p q) a n = both (L (inverse beta j) z) (L (inverse beta j) y) (face_on beta L path tt good x z 1 j q a n) (face_on beta L path tt good x y 0 j p a n)

  both_step : (x x' : ℕ) → IsLinkedBy L (IsCarrying beta 2) x x' → IsPairedBoth L path x → IsPairedBoth L path x'
  both_step x x' (j, a, e, n) q = rw (← e) (both_on x j q (pairing a) (λ o. n (sym e ∙ o)))
    where
      pairing : IsCarrying beta 2 j → IsPairing 2 j
      pairing (inl g) = inl g
      pairing (inr f) = inr (far_from_two_beta j f)

  both_all : (b x : ℕ) → Contains path b → InOrbit (IsLinkedBy L (IsCarrying beta 2)) b x → IsPairedBoth L path x
  both_all b x h here = both_begin b h
  both_all b x h (onward {x = u} {y = v} o s) = both_step u v s (both_all b u h o)

  pair_at : (x t : ℕ) → IsPairedBoth L path x → IsJustBelow beta 2 t → (y : ℕ) × FacePairs beta L path x y t
  pair_at x zero (both y z p q) b = (y, p)
  pair_at x (suc zero) (both y z p q) b = (z, q)
  pair_at x (suc (suc t)) (both y z p q) b = absurd (omega arith)

  pub beta_face_can : ((b : ℕ) → Contains path b → b ≢ 0) → IsInsertable beta 2 (FaceDarts beta L path) (FacePairs beta L path) L
  beta_face_can darts = face_can_if beta L path tt good darts (λ x t h b. pair_at x t (both_all h.0 x h.1 h.2) b)

pub face_keeps : (k : Kind) (path : List ℕ) (star : ℕ → ℕ) (L N : Links) → Laws k L → ((b : ℕ) → Contains path b → b ≢ 0) → IsClosedPath k L path → IsFacePaired k L path → IsFresh L (FaceDarts k L path) star → IsFace k path star L N → Laws k N
face_keeps alpha path star L N w darts closed pairs fresh s =
    let ends : HasEnds alpha L path = λ b h. let q : (c : ℕ) × IsNext path b c = has_next path b h in (closed b q.0 q.1).0 in
    insertion_keeps alpha 2 (FaceDarts alpha L path) (FacePairs alpha L path) star L w (alpha_face_can L w path ends pairs.good darts) fresh N s
face_keeps beta path star L N w darts closed pairs fresh s =
    insertion_keeps beta 2 (FaceDarts beta L path) (FacePairs beta L path) star L w (beta_face_can L path pairs.good darts) fresh N s
