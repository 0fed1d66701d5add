-- The cells of a combinatorial map that are removed or contracted can be crossed, as their conditions say.
use Rattle.std.proofs.Common.{◌≡◌, ◌≢◌, ◌⊎◌, ◌+◌, ◌≤◌, ℕ, inl, inr, refl, ap, subst}
use Rattle.map_defs.specs.Kind.{beta, inverse, IsDistant}
use Rattle.map_defs.specs.Links.{Links, IsMadeUpTo}
use Rattle.map_defs.specs.Laws.{Laws}
use Rattle.map_defs.specs.Cells.{InCell}
use Rattle.map_defs.specs.Walks.{step}
use Rattle.map_defs.specs.Removal.{CommutesAt}
use Rattle.link_laws.proofs.Basics.{inverse_twice, inverse_own, IsDistant-inverse_right}
use Rattle.link_laws.proofs.Relink.{IsEither}
use Rattle.link_laws.proofs.CellFacts.{orbit_nonzero, orbit_bounded}
use Rattle.remove_laws.proofs.TotalSteps.{step_case, links_commute}
use Rattle.remove_laws.proofs.Walked.{CanBeWalked}

module _ (L : Links) (w : Laws beta L) where
  -- steps that commute at x are links that commute there
  commutes_at : (i j x : ℕ) → 2 ≤ i → 2 ≤ j → CommutesAt L i j x → L i (L j x) ≡ L j (L i x)
  commutes_at i j x hi hj e = links_commute L (step L) (step_case L) i j (w.nil i) (w.nil j) (λ y. w.apart i y (inverse_own beta i hi)) (λ y. w.apart j y (inverse_own beta j hj)) (back i hi) (back j hj) x e
    where
      back : (t : ℕ) → 2 ≤ t → (y : ℕ) → L t y ≢ 0 → L t (L t y) ≡ y
      back t h y n = subst (λ s. L s (L t y) ≡ y) (inverse_own beta t h) (w.back t y n)

  -- a link q from 2 upwards is its own inverse, and is turned round by the links distant from it
  pub own_back : (q c : ℕ) → 2 ≤ q → L q c ≢ 0 → L q (L q c) ≡ c
  own_back q c h n = subst (λ s. L s (L q c) ≡ c) (inverse_own beta q h) (w.back q c n)

  pub own_mirror : (q j c : ℕ) → 2 ≤ q → IsDistant beta q j → L q (L (inverse beta j) c) ≡ L j (L q c)
  own_mirror q j c h far =
      let e = w.square q (inverse beta j) c (IsDistant-inverse_right beta q j far) in
      let f = inverse_own beta q h in
      let g = inverse_twice beta j in
      cc (e, ap (λ s. L s (L (inverse beta j) c)) f, ap (λ s. L s (L q c)) g)

  module _ (made d : ℕ) (live : d ≢ 0) (bound : IsMadeUpTo made L) where
    pub nowhere : (i : ℕ) → InCell beta L i d 0 → ⊥
    nowhere i h = orbit_nonzero L _ live h refl

    -- A set that is a cell, is crossed along p by way of a link q, and meets link r with the condition
    pub by_link : (p q r : ℕ) → 2 ≤ q → 2 ≤ r → (IsEither beta p q → ⊥) → ((j : ℕ) → IsDistant beta p j → (j ≡ r) ⊎ IsDistant beta q j)
        → ((t c : ℕ) → (IsEither beta p t → ⊥) → InCell beta L p d c → L t c ≢ 0 → InCell beta L p d (L t c))
        → ((c : ℕ) → InCell beta L p d c → CommutesAt L q r c) → CanBeWalked p (made + d) (InCell beta L p d) (L q) L
    by_link p q r hq hr other near closed each = record {
      laws = w;
      nowhere = nowhere p;
      bounded = λ x h. orbit_bounded beta L w made bound _ h;
      inside = λ c h n. closed q c other h n;
      closed = closed;
      nil = w.nil q;
      twice = λ c h n. own_back q c hq n;
      mirror = mirror;
    }
      where
        mirror : (j c : ℕ) → IsDistant beta p j → InCell beta L p d c → L q (L (inverse beta j) c) ≡ L j (L q c)
        mirror j c far h = at (near j far)
          where
            at : (j ≡ r) ⊎ IsDistant beta q j → L q (L (inverse beta j) c) ≡ L j (L q c)
            at (inl e) = let f = commutes_at q r c hq hr (each c h) in let g = inverse_own beta r hr in cc (ap (λ s. L q (L (inverse beta s) c)) e, ap (λ s. L s (L q c)) e, ap (λ s. L q (L s c)) g, f)
            at (inr k) = own_mirror q j c hq k
