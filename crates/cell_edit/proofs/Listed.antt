-- What is looked at for one listed dart after another, and the darts before a place of a list.
use Rattle.std.proofs.Common.{ℕ, ◌≡◌, ◌≢◌, ◌+◌, ◌<◌, ◌≤◌, ◌↔◌, Bool, true, false, List, length, take, slice_index, get_or, Contains, refl, sym, ◌∙◌, subst, inl, inr, arith}
use Rattle.std.proofs.lemmas.Bool.{false≢true, cases_lt}
use Rattle.std.proofs.lemmas.List.{get_or_default, get_or-take, length-take}
use Rattle.std.specs.List.Sorted.{IsStrictlyIncreasing}
use Rattle.cell_edit.proofs.StarNumbers.{rises}

module _ (P : ℕ → Type 0) (xs : List ℕ) where
  -- one of them was found for which it is not so
  pub not-all : (p x : ℕ) (r : Bool) → p < length xs → x ≡ get_or xs p x → r ≡ false → ((r ≡ true) ↔ P x) → (false ≡ true) ↔ ((b : ℕ) → Contains xs b → P b)
  not-all p x r low at is tells = ((λ e. absurd (false≢true e)), λ all. absurd (false≢true (sym is ∙ tells.1 (all x (p, low, sym at)))))

  -- it is so for one more
  pub one-more : (p x : ℕ) → p < length xs → x ≡ get_or xs p x → P x → ((q : ℕ) → q < p → P (slice_index xs q)) → (q : ℕ) → q < p + 1 → P (slice_index xs q)
  one-more p x low at here before q less = elim (cases_lt q p) [
    | inl lower ↦ before q lower
    | inr other ↦ (let e : p ≡ q = omega arith in subst (λ s. P (slice_index xs s)) e (subst P (at ∙ get_or_default xs p x 0 low) here))
  ]

  -- it is so for all of them
  pub all-so : (p : ℕ) → length xs ≤ p → ((q : ℕ) → q < p → P (slice_index xs q)) → (b : ℕ) → Contains xs b → P b
  all-so p past before b has = subst P (get_or_default xs has.0 0 b has.1 ∙ has.2) (before has.0 (omega (arith, has.1)))

  pub all-told : (p : ℕ) → length xs ≤ p → ((q : ℕ) → q < p → P (slice_index xs q)) → (true ≡ true) ↔ ((b : ℕ) → Contains xs b → P b)
  all-told p past before = ((λ e. all-so p past before), λ all. refl)

-- ---- the darts before a place of a list
module _ (keys : List ℕ) where
  -- they are others than the dart there, where the list is ascending
  pub listed-apart : (q x u : ℕ) → IsStrictlyIncreasing keys → q < length keys → x ≡ get_or keys q x → Contains (take q keys) u → u ≢ x
  listed-apart q x u up low at has e =
      let p : ℕ = has.0 in
      let p_low : p < q = omega (arith, has.1, length-take q keys) in
      let p_at : slice_index keys p ≡ u = get_or_default keys p 0 u (omega arith) ∙ sym (get_or-take q keys p u p_low) ∙ has.2 in
      let k_at : slice_index keys q ≡ x = get_or_default keys q 0 x low ∙ sym at in
      let less : slice_index keys p < slice_index keys q = rises keys up p q p_low low in omega arith

  -- and they are in the list
  pub taken : (q u : ℕ) → Contains (take q keys) u → Contains keys u
  taken q u has =
      let p_low : has.0 < q = omega (arith, has.1, length-take q keys) in
      (has.0, omega (arith, has.1, length-take q keys), sym (get_or-take q keys has.0 u p_low) ∙ has.2)
