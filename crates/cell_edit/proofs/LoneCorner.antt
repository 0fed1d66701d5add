-- A corner of a combinatorial map whose faces have one side alone: one dart.
use Rattle.std.proofs.Common.{◌≡◌, ℕ, ◌≤◌, ◌↔◌, List, [], Contains, inl, inr, refl, sym, ap, ◌∙◌, subst, arith}
use Rattle.std.proofs.lemmas.Bool.{cases_lt}
use Rattle.map_defs.specs.Links.{Links, HasDimension}
use Rattle.map_defs.specs.LinkWords.{through}
use Rattle.map_defs.specs.Cells.{here, onward, Leads}
use Rattle.map_defs.specs.Insertion.{IsCornerWord, InBetaCorner}

module _ (n : ℕ) (L : Links) (above : HasDimension n L) (js : List ℕ) (listed : (j : ℕ) → Contains js j ↔ ((j ≤ n) × (3 ≤ j))) (none : js ≡ []) where
  free : (j d : ℕ) → 3 ≤ j → L j d ≡ 0
  free j d up = elim (cases_lt n j) [
    | inl beyond ↦ above j d beyond
    | inr low ↦ absurd (let has : Contains [] j = subst (λ is. Contains is j) none ((listed j).1 (low, up)) in omega (arith, has.1))
  ]

  no-step : (x y : ℕ) → Leads L IsCornerWord x y → ⊥
  no-step x y (w, (j, up, is), leads, dart) = dart (sym leads ∙ (ap (λ v. through L v x) is ∙ free j (L 0 x) up))

  alone : {d e : ℕ} → InBetaCorner L d e → d ≡ e
  alone here = refl
  alone (onward o s) = absurd (no-step _ _ s)

  pub lone-corner : (d e : ℕ) → (d ≡ e) ↔ InBetaCorner L d e
  lone-corner d e = (λ same. subst (InBetaCorner L d) same here, λ among. alone among)
