-- The way around a boundary ends.
use Rattle.std.proofs.Common.{ℕ, ◌≡◌, ◌≢◌, ◌⊎◌, sym, ap, inl, inr, ⊎_elim, ◌∙◌}
use Rattle.map_defs.specs.Kind.{Kind, inverse}
use Rattle.map_defs.specs.Links.{Links, IsMadeUpTo}
use Rattle.map_defs.specs.Laws.{Laws}
use Rattle.map_defs.specs.Walks.{Walk, stop, go}
use Rattle.map_defs.specs.Closing.{IsAround}
use Rattle.link_laws.proofs.Basics.{same_or_not}
use Rattle.link_laws.proofs.LawFacts.{link_one}
use Rattle.link_laws.proofs.Walking.{found}

module _ (k : Kind) (L : Links) (w : Laws k L) (i : ℕ) where
  -- only from a dart a walk over link i leads to one
  pub walk-dart : (t c y : ℕ) → Walk (λ c. L i c ≢ 0) (λ c. L t (L i c)) c y → y ≢ 0 → c ≢ 0
  walk-dart t c y (stop n) h o = h o
  walk-dart t c y (go g p) h o = g (ap (L i) o ∙ w.nil i)

  -- the walk around a boundary at a link that is its own inverse ends, since only the darts up to made have links
  pub around-found : inverse k i ≡ i → (t made x : ℕ) → IsMadeUpTo made L → L i x ≡ 0 → (y : ℕ) × IsAround k i t L x y
  around-found own t made x bound free = from (same_or_not (L (inverse k t) x) 0)
    where
      one : (c d : ℕ) → L i c ≢ 0 → L i d ≢ 0 → L i (L (inverse k t) (L i c)) ≢ 0
          → L (inverse k t) (L i c) ≡ L (inverse k t) (L i d) → c ≡ d
      one c d hc hd hs e = link_one k L w i c d hc (link_one k L w (inverse k t) (L i c) (L i d) (λ o. hs (ap (L i) o ∙ w.nil i)) e)

      begins : L (inverse k t) x ≢ 0 → (c : ℕ) → L i c ≢ 0 → L (inverse k t) (L i c) ≢ L (inverse k t) x
      begins n c hc e =
          let f : x ≡ L i c = link_one k L w (inverse k t) x (L i c) n (sym e) in
          let b : L i (L i c) ≡ c = ap (λ s. L s (L i c)) (sym own) ∙ w.back i c hc in
          hc (ap (L i) (sym b ∙ (ap (L i) (sym f) ∙ free)) ∙ w.nil i)

      told : (c : ℕ) → (L i c ≢ 0) ⊎ ((L i c ≢ 0) → ⊥)
      told c = ⊎_elim (λ (e : L i c ≡ 0). inr (λ n. n e)) (λ (n : L i c ≢ 0). inl n) (same_or_not (L i c) 0)

      from : (L (inverse k t) x ≡ 0) ⊎ (L (inverse k t) x ≢ 0) → (y : ℕ) × IsAround k i t L x y
      from (inl e) = (L (inverse k t) x, stop (λ h. h (ap (L i) e ∙ w.nil i)))
      from (inr n) = found (λ c. L i c ≢ 0) (λ c. L (inverse k t) (L i c)) made (L (inverse k t) x) (λ c h. bound i c h) one (begins n) told
