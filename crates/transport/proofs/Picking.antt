-- Of the places below a number, those that pass: how many there are, and what stands at them.
use Rattle.std.proofs.Common.{◌≡◌, ◌⊎◌, inl, inr, ℕ, zero, suc, ◌+◌, ◌<◌, ◌≤◌, [], ◌∷◌, ◌++◌, length, get_or, slice_index, Bool, true, false, Contains, refl, sym, ◌∙◌, ap, arith}
use Rattle.std.specs.List.Sorted.{IsStrictlyIncreasing}
use Rattle.transport.specs.Pieces.{picked, count_below}
use Rattle.transport.proofs.Lists.{at_front, at_back, one_more}

pub decide : (b : Bool) → (b ≡ true) ⊎ (b ≡ false)
decide true = inl refl
decide false = inr refl

module _ (passes : ℕ → Bool) where
  pub count_yes : (n : ℕ) → passes n ≡ true → count_below passes (suc n) ≡ count_below passes n + 1
  count_yes n e = rw e refl

  pub count_no : (n : ℕ) → passes n ≡ false → count_below passes (suc n) ≡ count_below passes n
  count_no n e = rw e refl

  pub count_at_most : (n : ℕ) → count_below passes n ≤ n
  count_at_most zero = omega arith
  count_at_most (suc n) = elim (decide (passes n)) [
    | inl e ↦ (let c = count_yes n e in let l = count_at_most n in omega arith)
    | inr e ↦ (let c = count_no n e in let l = count_at_most n in omega arith)
  ]

  one_by_one : (n : ℕ) → count_below passes n ≤ count_below passes (suc n)
  one_by_one n = elim (decide (passes n)) [ inl e ↦ (let c = count_yes n e in omega arith) | inr e ↦ (let c = count_no n e in omega arith) ]

  last_or_before : (k n : ℕ) → k ≤ suc n → (k ≤ n) ⊎ (k ≡ suc n)
  last_or_before k n h = grind arith

  pub count_rises : (k n : ℕ) → k ≤ n → count_below passes k ≤ count_below passes n
  count_rises k zero h = let e : k ≡ 0 = omega arith in rw e (omega arith)
  count_rises k (suc n) h = elim (last_or_before k n h) [
    | inl l ↦ (let a = count_rises k n l in let b = one_by_one n in omega arith)
    | inr e ↦ rw e (omega arith)
  ]

  pub count_passed : (k n : ℕ) → passes k ≡ true → k < n → count_below passes k < count_below passes n
  count_passed k n e h = let c = count_yes k e in let l = count_rises (suc k) n (omega arith) in omega arith

  -- a place that passes, by how many do before it
  pub place_counted : (n at : ℕ) → at < count_below passes n → (k : ℕ) × (k < n) × (passes k ≡ true) × (count_below passes k ≡ at)
  place_counted zero at h = absurd (omega arith)
  place_counted (suc n) at h = elim (decide (passes n)) [ inl e ↦ on e (λ l. place_counted n at l) (case e) | inr e ↦ later (place_counted n at (let c = count_no n e in omega arith)) ]
    where
      later : (k : ℕ) × (k < n) × (passes k ≡ true) × (count_below passes k ≡ at) → (k : ℕ) × (k < suc n) × (passes k ≡ true) × (count_below passes k ≡ at)
      later (k, l, e, c) = (k, omega arith, e, c)

      case : passes n ≡ true → (at < count_below passes n) ⊎ (count_below passes n ≡ at)
      case e = let c = count_yes n e in grind arith

      on : passes n ≡ true → (at < count_below passes n → (k : ℕ) × (k < n) × (passes k ≡ true) × (count_below passes k ≡ at)) → (at < count_below passes n) ⊎ (count_below passes n ≡ at) → (k : ℕ) × (k < suc n) × (passes k ≡ true) × (count_below passes k ≡ at)
      on e rest (inl l) = later (rest l)
      on e rest (inr c) = (n, omega arith, e, c)

  module _ {X : Type 0} (f : ℕ → X) where
    pub picked_yes : (n : ℕ) → passes n ≡ true → picked passes f (suc n) ≡ picked passes f n ++ f n ∷ []
    picked_yes n e = rw e refl

    pub picked_no : (n : ℕ) → passes n ≡ false → picked passes f (suc n) ≡ picked passes f n
    picked_no n e = rw e refl

    pub picked_size : (e : X) (n : ℕ) → length (picked passes f n) ≡ count_below passes n
    picked_size e zero = refl
    picked_size e (suc n) = elim (decide (passes n)) [
      | inl p ↦ ap length (picked_yes n p) ∙ one_more e (picked passes f n) (f n) ∙ ap (λ c. c + 1) (picked_size e n) ∙ sym (count_yes n p)
      | inr p ↦ ap length (picked_no n p) ∙ picked_size e n ∙ sym (count_no n p)
    ]

    pub picked_at : (e : X) (n k : ℕ) → k < n → passes k ≡ true → get_or (picked passes f n) (count_below passes k) e ≡ f k
    picked_at e zero k h p = absurd (omega arith)
    picked_at e (suc n) k h p = elim (case k) [ inl l ↦ elim (decide (passes n)) [ inl q ↦ front l q (picked_at e n k l p) | inr q ↦ ap (λ xs. get_or xs (count_below passes k) e) (picked_no n q) ∙ picked_at e n k l p ] | inr l ↦ back l ]
      where
        case : (j : ℕ) → (j < n) ⊎ (n ≤ j)
        case j = grind arith

        front : k < n → passes n ≡ true → get_or (picked passes f n) (count_below passes k) e ≡ f k → get_or (picked passes f (suc n)) (count_below passes k) e ≡ f k
        front l q rest =
            let s = picked_size e n in
            let c = count_passed k n p l in
            ap (λ xs. get_or xs (count_below passes k) e) (picked_yes n q) ∙ at_front e (picked passes f n) (f n) (count_below passes k) (omega arith) ∙ rest

        back : n ≤ k → get_or (picked passes f (suc n)) (count_below passes k) e ≡ f k
        back l =
            let same : k ≡ n = omega arith in
            let q : passes n ≡ true = ap passes (sym same) ∙ p in
            ap (λ xs. get_or xs (count_below passes k) e) (picked_yes n q)
            ∙ ap (λ c. get_or (picked passes f n ++ f n ∷ []) c e) (ap (count_below passes) same ∙ sym (picked_size e n))
            ∙ at_back e (picked passes f n) (f n) ∙ ap f (sym same)

  module _ (f : ℕ → ℕ) (n : ℕ) where
    pub picked_has : (k : ℕ) → k < n → passes k ≡ true → Contains (picked passes f n) (f k)
    picked_has k h p =
        let s = picked_size f 0 n in
        let c = count_passed k n p h in
        (count_below passes k, omega arith, picked_at f (f k) n k h p)

    pub picked_from : (x : ℕ) → Contains (picked passes f n) x → (k : ℕ) × (k < n) × (passes k ≡ true) × (f k ≡ x)
    picked_from x (at, h, e) = go (place_counted n at (let s = picked_size f 0 n in omega arith))
      where
        go : (k : ℕ) × (k < n) × (passes k ≡ true) × (count_below passes k ≡ at) → (k : ℕ) × (k < n) × (passes k ≡ true) × (f k ≡ x)
        go (k, l, p, c) = (k, l, p, sym (picked_at f x n k l p) ∙ ap (λ i. get_or (picked passes f n) i x) c ∙ e)

    pub picked_rises : ((j k : ℕ) → j < k → k < n → f j < f k) → IsStrictlyIncreasing (picked passes f n)
    picked_rises up at h = go (place_counted n at (let s = picked_size f 0 n in omega arith)) (place_counted n (at + 1) (let s = picked_size f 0 n in omega arith))
      where
        case : (j k : ℕ) → (j < k) ⊎ (k ≤ j)
        case j k = grind arith

        go : (j : ℕ) × (j < n) × (passes j ≡ true) × (count_below passes j ≡ at) → (k : ℕ) × (k < n) × (passes k ≡ true) × (count_below passes k ≡ at + 1) → slice_index (picked passes f n) at < slice_index (picked passes f n) (at + 1)
        go (j, hj, pj, cj) (k, hk, pk, ck) =
            let a : slice_index (picked passes f n) at ≡ f j = ap (slice_index (picked passes f n)) (sym cj) ∙ picked_at f 0 n j hj pj in
            let b : slice_index (picked passes f n) (at + 1) ≡ f k = ap (slice_index (picked passes f n)) (sym ck) ∙ picked_at f 0 n k hk pk in
            let l : f j < f k = elim (case j k) [ inl s ↦ up j k s hk | inr s ↦ absurd (let r = count_rises k j s in omega arith) ] in
            omega arith
