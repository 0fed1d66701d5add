-- The darts of an edge on a surface, told by the links of two of them.
use Rattle.std.proofs.Common.{ℕ, zero, suc, ◌≡◌, ◌≢◌, ◌<◌, ◌⊎◌, ◌↔◌, [], ◌∷◌, Contains, slice_index_or, refl, sym, ap, ◌∙◌, subst, inl, inr, arith}
use Rattle.map_defs.specs.Kind.{alpha}
use Rattle.map_defs.specs.Links.{Links, HasDimension}
use Rattle.map_defs.specs.Laws.{Laws}
use Rattle.map_defs.specs.LinkWords.{LinkWord, one_link, through, inverse_word, IsCellWord}
use Rattle.map_defs.specs.Cells.{InCell, here, onward}
use Rattle.link_laws.proofs.Basics.{distant_alpha}
use Rattle.link_laws.proofs.CellFacts.{alpha_closed}

-- ---- listed darts

-- the one dart of a list
pub lone-listed : (d x : ℕ) → Contains (d ∷ []) x ↔ (x ≡ d)
lone-listed d x = (λ has. from has.0 has.1 has.2, λ is. (0, omega arith, sym is))
  where
    from : (at : ℕ) → at < 1 → slice_index_or (d ∷ []) at x ≡ x → x ≡ d
    from zero low is = sym is
    from (suc at) low is = absurd (omega (arith, low))

-- x is one of four darts
abbrev pub IsOneOf : ℕ → ℕ → ℕ → ℕ → ℕ → Type 0
IsOneOf a b c d x = (x ≡ a) ⊎ (x ≡ b) ⊎ (x ≡ c) ⊎ (x ≡ d)

-- p and q are a and b, in this order or the other
abbrev AreBoth : ℕ → ℕ → ℕ → ℕ → Type 0
AreBoth a b p q = ((p ≡ a) × (q ≡ b)) ⊎ ((p ≡ b) × (q ≡ a))

-- the darts of a list of four
listed : (a b c d x : ℕ) → Contains (a ∷ b ∷ c ∷ d ∷ []) x ↔ IsOneOf a b c d x
listed a b c d x = (λ has. from has.0 has.1 has.2, to)
  where
    to : IsOneOf a b c d x → Contains (a ∷ b ∷ c ∷ d ∷ []) x
    to (inl is) = (0, omega arith, sym is)
    to (inr (inl is)) = (1, omega arith, sym is)
    to (inr (inr (inl is))) = (2, omega arith, sym is)
    to (inr (inr (inr is))) = (3, omega arith, sym is)

    from : (at : ℕ) → at < 4 → slice_index_or (a ∷ b ∷ c ∷ d ∷ []) at x ≡ x → IsOneOf a b c d x
    from zero low is = inl (sym is)
    from (suc zero) low is = inr (inl (sym is))
    from (suc (suc zero)) low is = inr (inr (inl (sym is)))
    from (suc (suc (suc zero))) low is = inr (inr (inr (sym is)))
    from (suc (suc (suc (suc at)))) low is = absurd (omega (arith, low))

-- two pairs keep their darts where the lower ones, the upper ones and then the two in the middle are put in order
pub merged-members : (a b c d p q r s t u : ℕ) → AreBoth a c p q → AreBoth b d r s → AreBoth q r t u
    → (x : ℕ) → Contains (p ∷ t ∷ u ∷ s ∷ []) x ↔ IsOneOf a b c d x
merged-members a b c d p q r s t u lower upper middle x =
    let same = listed p t u s x in
    (λ has. to (same.0 has), λ is. same.1 (from is))
  where
    to : IsOneOf p t u s x → IsOneOf a b c d x
    to is = grind (arith, lower, upper, middle, is)

    from : IsOneOf a b c d x → IsOneOf p t u s x
    from is = grind (arith, lower, upper, middle, is)

-- two pairs keep their darts where each is put in order
pub pairs-members : (a b c d p q r s : ℕ) → AreBoth a b p q → AreBoth c d r s → (x : ℕ) → IsOneOf p q r s x ↔ IsOneOf a b c d x
pairs-members a b c d p q r s one other x = (λ is. to is, λ is. from is)
  where
    to : IsOneOf p q r s x → IsOneOf a b c d x
    to is = grind (arith, one, other, is)

    from : IsOneOf a b c d x → IsOneOf p q r s x
    from is = grind (arith, one, other, is)

-- ---- the edge of a dart d

-- a word of an edge is one link other than link 1
edge-word : (v : LinkWord) → IsCellWord alpha 1 v → (j : ℕ) × (j ≢ 1) × (v ≡ one_link j)
edge-word v (inl runs) = runs
edge-word v (inr (u, (j, other, is), back)) = (j, other, back ∙ ap (inverse_word alpha) is)

-- What is closed under links 0 and 2 of a surface holds the edges of its darts.
module _ (L : Links) (above : HasDimension 2 L) (d : ℕ) (P : ℕ → Type 0) (has : P d)
    (by_zero : (x : ℕ) → P x → L 0 x ≢ 0 → P (L 0 x)) (by_two : (x : ℕ) → P x → L 2 x ≢ 0 → P (L 2 x)) where
  -- it is closed under the other links of an edge, which are free
  by_any : (j x : ℕ) → j ≢ 1 → P x → L j x ≢ 0 → P (L j x)
  by_any zero x other p some = by_zero x p some
  by_any (suc zero) x other p some = absurd (other refl)
  by_any (suc (suc zero)) x other p some = by_two x p some
  by_any (suc (suc (suc j))) x other p some = absurd (some (above (suc (suc (suc j))) x (omega arith)))

  -- so a word of an edge leads to what it holds
  led : (x y : ℕ) (v : LinkWord) → (j : ℕ) × (j ≢ 1) × (v ≡ one_link j) → P x → through L v x ≡ y → y ≢ 0 → P y
  led x y v (j, other, is) p to some =
      let at : L j x ≡ y = sym (ap (λ u. through L u x) is) ∙ to in
      subst P at (by_any j x other p (λ none. some (sym at ∙ none)))

  -- and so does each way along an edge
  edge-within : (y : ℕ) → InCell alpha L 1 d y → P y
  edge-within y here = has
  edge-within y (onward {x = x} among (v, word, to, some)) = led x y v (edge-word v word) (edge-within x among) to some

-- a dart that is free at both links is its edge alone
pub lone-edge : (L : Links) → HasDimension 2 L → (d : ℕ) → L 0 d ≡ 0 → L 2 d ≡ 0 → (y : ℕ) → (y ≡ d) ↔ InCell alpha L 1 d y
lone-edge L above d free_end free_side y = (
  λ is. subst (InCell alpha L 1 d) (sym is) here,
  edge-within L above d (λ x. x ≡ d) refl (λ x is some. absurd (some (ap (L 0) is ∙ free_end))) (λ x is some. absurd (some (ap (L 2) is ∙ free_side))) y,
)

-- an edge that is free at link 0, but not at link 2, has two darts
pub open-edge : (L : Links) → Laws alpha L → HasDimension 2 L → (d across : ℕ) → L 0 d ≡ 0 → L 2 d ≡ across → across ≢ 0
    → (y : ℕ) → ((y ≡ d) ⊎ (y ≡ across)) ↔ InCell alpha L 1 d y
open-edge L w above d across free to_across real_across y = (to, edge-within L above d (λ x. (x ≡ d) ⊎ (x ≡ across)) (inl refl) by_zero by_two y)
  where
    -- the dart at link 2 is free at link 0 too
    across_free : L 0 across ≡ 0
    across_free = ap (L 0) (sym to_across) ∙ (w.square 0 2 d (distant_alpha 0 2 (inl (omega arith))) ∙ (ap (L 2) free ∙ w.nil 2))

    to : (y ≡ d) ⊎ (y ≡ across) → InCell alpha L 1 d y
    to (inl is) = subst (InCell alpha L 1 d) (sym is) here
    to (inr is) = subst (InCell alpha L 1 d) (to_across ∙ sym is) (alpha_closed L 1 2 d d (omega arith) here (λ none. real_across (sym to_across ∙ none)))

    by_zero : (x : ℕ) → (x ≡ d) ⊎ (x ≡ across) → L 0 x ≢ 0 → (L 0 x ≡ d) ⊎ (L 0 x ≡ across)
    by_zero x (inl is) some = absurd (some (ap (L 0) is ∙ free))
    by_zero x (inr is) some = absurd (some (ap (L 0) is ∙ across_free))

    by_two : (x : ℕ) → (x ≡ d) ⊎ (x ≡ across) → L 2 x ≢ 0 → (L 2 x ≡ d) ⊎ (L 2 x ≡ across)
    by_two x (inl is) some = inr (ap (L 2) is ∙ to_across)
    by_two x (inr is) some = inl (ap (L 2) (is ∙ sym to_across) ∙ w.back 2 d (λ none. real_across (sym to_across ∙ none)))

-- The edge of a dart d that link 0 leads to a dart.
module _ (L : Links) (w : Laws alpha L) (d end : ℕ) (to_end : L 0 d ≡ end) (real_end : end ≢ 0) where
  -- link 0 leads back from there
  end_back : L 0 end ≡ d
  end_back = subst (λ m. L 0 m ≡ d) to_end (w.back 0 d (λ none. real_end (sym to_end ∙ none)))

  -- the square of links 0 and 2
  square : L 0 (L 2 d) ≡ L 2 end
  square = w.square 0 2 d (distant_alpha 0 2 (inl (omega arith))) ∙ ap (L 2) to_end

  -- the other end is a dart of the edge
  end_among : InCell alpha L 1 d end
  end_among = subst (InCell alpha L 1 d) to_end (alpha_closed L 1 0 d d (omega arith) here (λ none. real_end (sym to_end ∙ none)))

  -- an edge that is free at link 2, or folded, has two darts
  pub two-edge : HasDimension 2 L → (L 2 d ≡ 0) ⊎ (L 2 d ≡ end) → (y : ℕ) → ((y ≡ d) ⊎ (y ≡ end)) ↔ InCell alpha L 1 d y
  two-edge above side y = (to, edge-within L above d (λ x. (x ≡ d) ⊎ (x ≡ end)) (inl refl) by_zero (by_two side) y)
    where
      to : (y ≡ d) ⊎ (y ≡ end) → InCell alpha L 1 d y
      to (inl is) = subst (InCell alpha L 1 d) (sym is) here
      to (inr is) = subst (InCell alpha L 1 d) (sym is) end_among

      by_zero : (x : ℕ) → (x ≡ d) ⊎ (x ≡ end) → L 0 x ≢ 0 → (L 0 x ≡ d) ⊎ (L 0 x ≡ end)
      by_zero x (inl is) some = inr (ap (L 0) is ∙ to_end)
      by_zero x (inr is) some = inl (ap (L 0) is ∙ end_back)

      by_two : (L 2 d ≡ 0) ⊎ (L 2 d ≡ end) → (x : ℕ) → (x ≡ d) ⊎ (x ≡ end) → L 2 x ≢ 0 → (L 2 x ≡ d) ⊎ (L 2 x ≡ end)
      by_two (inl free) x (inl is) some = absurd (some (ap (L 2) is ∙ free))
      by_two (inl free) x (inr is) some = absurd (some (ap (L 2) is ∙ (sym square ∙ (ap (L 0) free ∙ w.nil 0))))
      by_two (inr folded) x (inl is) some = inr (ap (L 2) is ∙ folded)
      by_two (inr folded) x (inr is) some = inl (ap (L 2) (is ∙ sym folded) ∙ w.back 2 d (λ none. real_end (sym folded ∙ none)))

  -- Link 2 leads from d to a dart, and on from the other end of the edge.
  module _ (across far : ℕ) (to_across : L 2 d ≡ across) (real_across : across ≢ 0) (to_far : L 2 end ≡ far) where
    -- link 2 leads back to d
    across_back : L 2 across ≡ d
    across_back = subst (λ m. L 2 m ≡ d) to_across (w.back 2 d (λ none. real_across (sym to_across ∙ none)))

    -- link 0 leads from the dart across to the far one, as link 2 does from the other end
    far_too : L 0 across ≡ far
    far_too = ap (L 0) (sym to_across) ∙ (square ∙ to_far)

    -- where link 2 is free at the one end of an edge, it is free at the other
    pub far-dart : far ≢ 0
    far-dart none =
        let back_square : L 2 (L 0 end) ≡ L 0 (L 2 end) = sym (w.square 0 2 end (distant_alpha 0 2 (inl (omega arith)))) in
        real_across (sym to_across ∙ (ap (L 2) (sym end_back) ∙ (back_square ∙ (ap (L 0) (to_far ∙ none) ∙ w.nil 0))))

    -- both links lead back from the far dart
    far_back : L 2 far ≡ end
    far_back = subst (λ m. L 2 m ≡ end) to_far (w.back 2 end (λ none. far-dart (sym to_far ∙ none)))

    far_across : L 0 far ≡ across
    far_across = subst (λ m. L 0 m ≡ across) far_too (w.back 0 across (λ none. far-dart (sym far_too ∙ none)))

    -- the four darts of an edge
    pub four-edge : HasDimension 2 L → (y : ℕ) → IsOneOf d end across far y ↔ InCell alpha L 1 d y
    four-edge above y = (to, edge-within L above d (IsOneOf d end across far) (inl refl) by_zero by_two y)
      where
        to : IsOneOf d end across far y → InCell alpha L 1 d y
        to (inl is) = subst (InCell alpha L 1 d) (sym is) here
        to (inr (inl is)) = subst (InCell alpha L 1 d) (sym is) end_among
        to (inr (inr (inl is))) = subst (InCell alpha L 1 d) (to_across ∙ sym is) (alpha_closed L 1 2 d d (omega arith) here (λ none. real_across (sym to_across ∙ none)))
        to (inr (inr (inr is))) = subst (InCell alpha L 1 d) (to_far ∙ sym is) (alpha_closed L 1 2 d end (omega arith) end_among (λ none. far-dart (sym to_far ∙ none)))

        by_zero : (x : ℕ) → IsOneOf d end across far x → L 0 x ≢ 0 → IsOneOf d end across far (L 0 x)
        by_zero x (inl is) some = inr (inl (ap (L 0) is ∙ to_end))
        by_zero x (inr (inl is)) some = inl (ap (L 0) is ∙ end_back)
        by_zero x (inr (inr (inl is))) some = inr (inr (inr (ap (L 0) is ∙ far_too)))
        by_zero x (inr (inr (inr is))) some = inr (inr (inl (ap (L 0) is ∙ far_across)))

        by_two : (x : ℕ) → IsOneOf d end across far x → L 2 x ≢ 0 → IsOneOf d end across far (L 2 x)
        by_two x (inl is) some = inr (inr (inl (ap (L 2) is ∙ to_across)))
        by_two x (inr (inl is)) some = inr (inr (inr (ap (L 2) is ∙ to_far)))
        by_two x (inr (inr (inl is))) some = inl (ap (L 2) is ∙ across_back)
        by_two x (inr (inr (inr is))) some = inr (inl (ap (L 2) is ∙ far_back))
