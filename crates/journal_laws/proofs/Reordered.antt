-- What holds of each two elements of a list, in either order, holds of each two in another order of the list.
use Rattle.std.proofs.Common.{◌≡◌, ◌≢◌, ℕ, ◌<◌, ◌⊎◌, List, length, get_or, sym, ap, ◌∙◌, subst, refl, inl, inr, arith, AllPairs}
use Rattle.std.specs.List.{swap}
use Rattle.std.specs.List.Sorted.{IsPermutation}
use Rattle.std.proofs.lemmas.Bool.{cases_lt, cases_eq}
use Rattle.std.proofs.lemmas.List.Edits.{swapped_from_swap, length-swap}
use Rattle.std.proofs.lemmas.List.Sorted.{IsPermutation-keeps}

module _ {X : Type 0} (R : X → X → Type 0) (turn : (x y : X) → R x y → R y x) where
  any-two : (l : List X) → AllPairs R l → (p q : ℕ) (z : X) → p ≢ q → p < length l → q < length l → R (get_or l p z) (get_or l q z)
  any-two l all p q z differ low high = elim (cases_lt p q) [
    | inl below ↦ all p q z below high
    | inr above ↦ turn (get_or l q z) (get_or l p z) (all q p z (omega arith) low)
  ]

  module _ (l : List X) (i j : ℕ) (hi : i < length l) (hj : j < length l) where
    -- where an element stood before the exchange
    IsFrom : ℕ → ℕ → Type 0
    IsFrom p m = ((p ≡ i) × (m ≡ j)) ⊎ ((p ≢ i) × (p ≡ j) × (m ≡ i)) ⊎ ((p ≢ i) × (p ≢ j) × (m ≡ p))

    from : (p : ℕ) (z : X) → p < length l → (m : ℕ) × (m < length l) × (get_or (swap l i j) p z ≡ get_or l m z) × IsFrom p m
    unfolding IsFrom
    from p z h = elim (cases_eq p i) [
      | inl first ↦ (j, hj, ap (λ (q : ℕ). get_or (swap l i j) q z) first ∙ moved.0, inl (first, refl))
      | inr other ↦ elim (cases_eq p j) [
        | inl second ↦ (i, hi, ap (λ (q : ℕ). get_or (swap l i j) q z) second ∙ moved.1, inr (inl (other, second, refl)))
        | inr third ↦ (p, h, moved.2 p other third, inr (inr (other, third, refl)))
      ]
    ]
      where
        moved : (get_or (swap l i j) i z ≡ get_or l j z) × (get_or (swap l i j) j z ≡ get_or l i z)
            × ((m : ℕ) → (m ≡ i → ⊥) → (m ≡ j → ⊥) → get_or (swap l i j) m z ≡ get_or l m z)
        moved = swapped_from_swap l (swap l i j) i j z hi hj refl

    apart : (p q m o : ℕ) → IsFrom p m → IsFrom q o → p ≢ q → m ≢ o
    unfolding IsFrom
    apart p q m o (inl (a, b)) (inl (c, d)) differ e = omega arith
    apart p q m o (inl (a, b)) (inr (inl (c, d, g))) differ e = omega arith
    apart p q m o (inl (a, b)) (inr (inr (c, d, g))) differ e = omega arith
    apart p q m o (inr (inl (a, b, h))) (inl (c, d)) differ e = omega arith
    apart p q m o (inr (inl (a, b, h))) (inr (inl (c, d, g))) differ e = omega arith
    apart p q m o (inr (inl (a, b, h))) (inr (inr (c, d, g))) differ e = omega arith
    apart p q m o (inr (inr (a, b, h))) (inl (c, d)) differ e = omega arith
    apart p q m o (inr (inr (a, b, h))) (inr (inl (c, d, g))) differ e = omega arith
    apart p q m o (inr (inr (a, b, h))) (inr (inr (c, d, g))) differ e = omega arith

    swap-keeps : AllPairs R l → AllPairs R (swap l i j)
    swap-keeps all p q z below high =
        let long : length (swap l i j) ≡ length l = length-swap l i j in
        let (m, low, is, f) = from p z (omega arith) in
        let (o, low', is', f') = from q z (omega arith) in
        let h : R (get_or l m z) (get_or l o z) = any-two l all m o z (apart p q m o f f' (omega arith)) low low' in
        subst (λ (x : X). R x (get_or (swap l i j) q z)) (sym is) (subst (λ (y : X). R (get_or l m z) y) (sym is') h)

  pub AllPairs-permutation : (xs ys : List X) → IsPermutation xs ys → AllPairs R xs → AllPairs R ys
  AllPairs-permutation xs ys moved all = IsPermutation-keeps xs (λ (l : List X). AllPairs R l) all (λ l i j hi hj held. swap-keeps l i j hi hj held) ys moved
