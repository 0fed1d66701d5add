-- The corner of a dart on a face that lies on one side alone: the dart, and the dart at its link 1.
use Rattle.std.proofs.Common.{◌≡◌, ◌≢◌, ℕ, ◌+◌, ◌≤◌, ◌⊎◌, ◌↔◌, refl, sym, ap, ◌∙◌, subst, inl, inr, arith}
use Rattle.std.proofs.lemmas.Bool.{cases_lt}
use Rattle.map_defs.specs.Kind.{alpha}
use Rattle.map_defs.specs.Links.{Links, HasDimension}
use Rattle.map_defs.specs.Laws.{Laws}
use Rattle.map_defs.specs.Cells.{here, onward}
use Rattle.map_defs.specs.Insertion.{IsLinkedBy, IsCarrying, InAlphaCorner}
use Rattle.link_laws.proofs.Basics.{distant_alpha, distant_alpha_is}

carrying-one : (j : ℕ) → IsCarrying alpha 1 j → (j ≡ 1) ⊎ (3 ≤ j)
carrying-one j (inl same) = inl same
carrying-one j (inr far) = above (distant_alpha_is 1 j far)
  where
    above : (1 + 2 ≤ j) ⊎ (j + 2 ≤ 1) → (j ≡ 1) ⊎ (3 ≤ j)
    above (inl up) = inr (omega arith)
    above (inr down) = absurd (omega arith)

module _ (n : ℕ) (L : Links) (above : HasDimension n L) (w : Laws alpha L) (d : ℕ) (alone : (j : ℕ) → 3 ≤ j → j ≤ n → L j d ≡ 0) where
  free : (j : ℕ) → 3 ≤ j → L j d ≡ 0
  free j up = elim (cases_lt n j) [ inl beyond ↦ above j d beyond | inr low ↦ alone j up low ]

  next-free : (j : ℕ) → 3 ≤ j → L j (L 1 d) ≡ 0
  next-free j up = sym (w.square 1 j d (distant_alpha 1 j (inl (omega arith)))) ∙ (ap (L 1) (free j up) ∙ w.nil 1)

  -- a step from the dart itself
  first-step : (j y : ℕ) → (j ≡ 1) ⊎ (3 ≤ j) → L j d ≡ y → y ≢ 0 → (y ≡ d) ⊎ ((L 1 d ≡ y) × (y ≢ 0))
  first-step j y (inl same) to some = inr (sym (ap (λ i. L i d) same) ∙ to, some)
  first-step j y (inr up) to some = absurd (some (sym to ∙ free j up))

  -- a step from the dart at its link 1
  next-step : (j y : ℕ) → (j ≡ 1) ⊎ (3 ≤ j) → L j (L 1 d) ≡ y → y ≢ 0 → (y ≡ d) ⊎ ((L 1 d ≡ y) × (y ≢ 0))
  next-step j y (inl same) to some =
      let at : L 1 (L 1 d) ≡ y = sym (ap (λ i. L i (L 1 d)) same) ∙ to in
      inl (sym at ∙ w.back 1 d (λ none. some (sym at ∙ (ap (L 1) none ∙ w.nil 1))))
  next-step j y (inr up) to some = absurd (some (sym to ∙ next-free j up))

  step : (x y : ℕ) → (x ≡ d) ⊎ ((L 1 d ≡ x) × (x ≢ 0)) → IsLinkedBy L (IsCarrying alpha 1) x y → (y ≡ d) ⊎ ((L 1 d ≡ y) × (y ≢ 0))
  step x y (inl same) (j, has, to, some) = first-step j y (carrying-one j has) (sym (ap (L j) same) ∙ to) some
  step x y (inr next) (j, has, to, some) = next-step j y (carrying-one j has) (ap (L j) next.0 ∙ to) some

  in-corner : {y : ℕ} → InAlphaCorner L d y → (y ≡ d) ⊎ ((L 1 d ≡ y) × (y ≢ 0))
  in-corner here = inl refl
  in-corner (onward among s) = step _ _ (in-corner among) s

  pub one-sided-corner : (e : ℕ) → ((e ≡ d) ⊎ ((L 1 d ≡ e) × (e ≢ 0))) ↔ InAlphaCorner L d e
  one-sided-corner e = (to, λ among. in-corner among)
    where
      to : (e ≡ d) ⊎ ((L 1 d ≡ e) × (e ≢ 0)) → InAlphaCorner L d e
      to (inl same) = subst (InAlphaCorner L d) (sym same) here
      to (inr next) = onward here (1, inl refl, next.0, next.1)
