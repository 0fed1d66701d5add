-- Rings of four darts along two links that are each their own inverse.
use Rattle.std.proofs.Common.{◌≡◌, ◌≢◌, ℕ, zero, suc, ◌≤◌, ◌<◌, ◌⊎◌, ◌↔◌, [], ◌∷◌, Contains, slice_index_or, refl, sym, ap, ◌∙◌, subst, inl, inr, arith}
use Rattle.map_defs.specs.Kind.{Kind, inverse}
use Rattle.map_defs.specs.Links.{Links}
use Rattle.map_defs.specs.LinkWords.{LinkWord, one_link, through}
use Rattle.map_defs.specs.Cells.{InOrbit, here, onward, Leads}
use Rattle.cell_walk.specs.Ways.{IsEither}

-- y is one of four darts
abbrev IsOneOf : ℕ → ℕ → ℕ → ℕ → ℕ → Type 0
IsOneOf d a b c y = (d ≡ y) ⊎ (a ≡ y) ⊎ (b ≡ y) ⊎ (c ≡ y)

listed : (d a b c y : ℕ) → IsOneOf d a b c y → Contains (d ∷ a ∷ b ∷ c ∷ []) y
listed d a b c y (inl is) = (0, omega arith, is)
listed d a b c y (inr (inl is)) = (1, omega arith, is)
listed d a b c y (inr (inr (inl is))) = (2, omega arith, is)
listed d a b c y (inr (inr (inr is))) = (3, omega arith, is)

unlisted : (d a b c y : ℕ) (at : ℕ) → at < 4 → slice_index_or (d ∷ a ∷ b ∷ c ∷ []) at y ≡ y → IsOneOf d a b c y
unlisted d a b c y zero low is = inl is
unlisted d a b c y (suc zero) low is = inr (inl is)
unlisted d a b c y (suc (suc zero)) low is = inr (inr (inl is))
unlisted d a b c y (suc (suc (suc zero))) low is = inr (inr (inr is))
unlisted d a b c y (suc (suc (suc (suc at)))) low is = absurd (omega (arith, low))

-- Both links lead on from d, and from where they lead, each the other's way, to one number: the orbit of d has these four, as far
-- as they are darts.
module _ (k : Kind) (L : Links) (back : (i x : ℕ) → L i x ≢ 0 → L (inverse k i) (L i x) ≡ x) (p q : ℕ) (own_p : inverse k p ≡ p) (own_q : inverse k q ≡ q)
    (d a b c : ℕ) (to_a : L p d ≡ a) (to_b : L q d ≡ b) (a_to_c : L q a ≡ c) (b_to_c : L p b ≡ c) where
  abbrev Step : ℕ → ℕ → Type 0
  Step = Leads L (IsEither (one_link p) (one_link q))

  -- d, or another one of the four that is a dart
  abbrev IsMet : ℕ → Type 0
  IsMet y = (d ≡ y) ⊎ (((a ≡ y) ⊎ (b ≡ y) ⊎ (c ≡ y)) × (y ≢ 0))

  -- a link that is its own inverse leads back again
  again : (i x z : ℕ) → inverse k i ≡ i → L i x ≡ z → z ≢ 0 → L i z ≡ x
  again i x z own is real = subst (λ j. L j z ≡ x) own (subst (λ m. L (inverse k i) m ≡ x) is (back i x (λ none. real (sym is ∙ none))))

  -- from each of the four both links lead to one of them
  by_p : (x : ℕ) → IsMet x → L p x ≢ 0 → IsMet (L p x)
  by_p x (inl is) on = inr (inl (sym to_a ∙ ap (L p) is), on)
  by_p x (inr (inl is, dart)) on = inl (sym (again p d a own_p to_a (λ none. dart (sym is ∙ none))) ∙ ap (L p) is)
  by_p x (inr (inr (inl is), dart)) on = inr (inr (inr (sym b_to_c ∙ ap (L p) is)), on)
  by_p x (inr (inr (inr is), dart)) on = inr (inr (inl (sym (again p b c own_p b_to_c (λ none. dart (sym is ∙ none))) ∙ ap (L p) is)), on)

  by_q : (x : ℕ) → IsMet x → L q x ≢ 0 → IsMet (L q x)
  by_q x (inl is) on = inr (inr (inl (sym to_b ∙ ap (L q) is)), on)
  by_q x (inr (inl is, dart)) on = inr (inr (inr (sym a_to_c ∙ ap (L q) is)), on)
  by_q x (inr (inr (inl is), dart)) on = inl (sym (again q d b own_q to_b (λ none. dart (sym is ∙ none))) ∙ ap (L q) is)
  by_q x (inr (inr (inr is), dart)) on = inr (inl (sym (again q a c own_q a_to_c (λ none. dart (sym is ∙ none))) ∙ ap (L q) is), on)

  led : (x y : ℕ) (w : LinkWord) → IsMet x → IsEither (one_link p) (one_link q) w → through L w x ≡ y → y ≢ 0 → IsMet y
  led x y w has (inl is) leads real =
      let to : L p x ≡ y = ap (λ v. through L v x) (sym is) ∙ leads in
      subst IsMet to (by_p x has (λ none. real (sym to ∙ none)))
  led x y w has (inr is) leads real =
      let to : L q x ≡ y = ap (λ v. through L v x) (sym is) ∙ leads in
      subst IsMet to (by_q x has (λ none. real (sym to ∙ none)))

  met : (y : ℕ) → InOrbit Step d y → IsMet y
  met y here = inl refl
  met y (onward {x = x} o s) = led x y s.0 (met x o) s.1 s.2 s.3

  -- no dart of the orbit is less than d, if none of these is
  pub ring-least : (a ≢ 0 → d ≤ a) → (b ≢ 0 → d ≤ b) → (c ≢ 0 → d ≤ c) → (y : ℕ) → InOrbit Step d y → d ≤ y
  ring-least low_a low_b low_c y o = low (met y o)
    where
      low : IsMet y → d ≤ y
      low (inl is) = omega (arith, is)
      low (inr (inl is, dart)) = subst (λ z. d ≤ z) is (low_a (λ none. dart (sym is ∙ none)))
      low (inr (inr (inl is), dart)) = subst (λ z. d ≤ z) is (low_b (λ none. dart (sym is ∙ none)))
      low (inr (inr (inr is), dart)) = subst (λ z. d ≤ z) is (low_c (λ none. dart (sym is ∙ none)))

  -- the four are the orbit, if each is a dart
  pub four-ring : a ≢ 0 → b ≢ 0 → c ≢ 0 → (y : ℕ) → Contains (d ∷ a ∷ b ∷ c ∷ []) y ↔ InOrbit Step d y
  four-ring real_a real_b real_c y = (λ has. reached (unlisted d a b c y has.0 has.1 has.2), λ o. listed d a b c y (one (met y o)))
    where
      reached : IsOneOf d a b c y → InOrbit Step d y
      reached (inl is) = subst (InOrbit Step d) is here
      reached (inr (inl is)) = subst (InOrbit Step d) is (onward here (one_link p, inl refl, to_a, real_a))
      reached (inr (inr (inl is))) = subst (InOrbit Step d) is (onward here (one_link q, inr refl, to_b, real_b))
      reached (inr (inr (inr is))) = subst (InOrbit Step d) is (onward (onward here (one_link p, inl refl, to_a, real_a)) (one_link q, inr refl, a_to_c, real_c))

      one : IsMet y → IsOneOf d a b c y
      one (inl is) = inl is
      one (inr one_of) = inr one_of.0
