-- The way around a boundary from an open dart: it ends, and no later than after as many steps as darts were made.
use Rattle.std.proofs.Common.{ℕ, ◌≡◌, ◌≢◌, ◌+◌, ◌≤◌, ◌⊎◌, sym, ap, ◌∙◌, inl, inr, arith}
use Rattle.map_defs.specs.Kind.{Kind, inverse}
use Rattle.map_defs.specs.Links.{Links, IsMadeUpTo}
use Rattle.map_defs.specs.Laws.{Laws}
use Rattle.map_defs.specs.Walks.{stop}
use Rattle.map_defs.specs.Closing.{IsAround}
use Rattle.link_laws.proofs.Basics.{same_or_not}
use Rattle.link_laws.proofs.LawFacts.{link_one}
use Rattle.link_laws.proofs.Walking.{found}
use Rattle.map_close.proofs.WalkSteps.{IsAlong, along-few}

-- the darts that are not free at link i, and one step around the boundary
abbrev pub IsCrossed : Links → ℕ → ℕ → Type 0
IsCrossed L i c = L i c ≢ 0

abbrev pub turn : Kind → ℕ → ℕ → Links → ℕ → ℕ
turn k i t L c = L (inverse k t) (L i c)

module _ (k : Kind) (L : Links) (w : Laws k L) (i : ℕ) (own : inverse k i ≡ i) (t made : ℕ) (bound : IsMadeUpTo made L) (x : ℕ) (free : L i x ≡ 0) where
  bounded : (c : ℕ) → IsCrossed L i c → c ≤ made
  bounded c h = bound i c h

  one : (c d : ℕ) → IsCrossed L i c → IsCrossed L i d → IsCrossed L i (turn k i t L c) → turn k i t L c ≡ turn k i t L d → c ≡ d
  one c d hc hd hs e = link_one k L w i c d hc (link_one k L w (inverse k t) (L i c) (L i d) (λ o. hs (ap (L i) o ∙ w.nil i)) e)

  fresh : L (inverse k t) x ≢ 0 → (c : ℕ) → IsCrossed L i c → turn k i t L c ≢ L (inverse k t) x
  fresh some c hc e =
      let at : x ≡ L i c = link_one k L w (inverse k t) x (L i c) some (sym e) in
      let back : L (inverse k i) (L i c) ≡ c = w.back i c hc in
      let to : L i x ≡ c = cc (own, at, back) in
      hc (ap (L i) (sym to ∙ free) ∙ w.nil i)

  told : (c : ℕ) → IsCrossed L i c ⊎ (IsCrossed L i c → ⊥)
  told c = elim (same_or_not (L i c) 0) [ inl e ↦ inr (λ h. h e) | inr n ↦ inl n ]

  pub around-found : (y : ℕ) × IsAround k i t L x y
  around-found = elim (same_or_not (L (inverse k t) x) 0) [
    | inl none ↦ (L (inverse k t) x, stop (λ h. h (ap (L i) none ∙ w.nil i)))
    | inr some ↦ found (IsCrossed L i) (turn k i t L) made (L (inverse k t) x) bounded one (fresh some) told
  ]

  pub around-few : (m y : ℕ) → made + 2 ≤ m → IsAlong (IsCrossed L i) (turn k i t L) (L (inverse k t) x) m y → ⊥
  around-few m y many on = elim (same_or_not (L (inverse k t) x) 0) [
    | inl none ↦ on.within 0 (omega arith) (ap (L i) none ∙ w.nil i)
    | inr some ↦ along-few (IsCrossed L i) (turn k i t L) made (L (inverse k t) x) bounded one (fresh some) m y many on
  ]
