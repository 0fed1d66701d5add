-- What cannot fail: under a double negation each question has an answer, and there is choice over the numbers below a bound.
use Rattle.std.proofs.Common.{◌≡◌, ◌≢◌, ◌⊎◌, ℕ, zero, suc, ◌<◌, subst, sym, inl, inr, arith}
use Rattle.link_laws.proofs.Basics.{same_or_not}
use Rattle.answer_laws.specs.Answering.{NotNot}

-- each question has an answer
pub either_way : (A : Type 0) → NotNot (A ⊎ (A → ⊥))
either_way A never = never (inr (λ a. never (inl a)))

-- what cannot fail of each number below a bound cannot fail of all of them
pub each_below : (P : ℕ → Type 0) (n : ℕ) → ((i : ℕ) → i < n → NotNot (P i)) → NotNot ((i : ℕ) → i < n → P i)
each_below P zero h never = never (λ i l. absurd (omega arith))
each_below P (suc n) h never =
    each_below P n (λ i l. h i (omega arith)) (λ low. h n (omega arith) (λ top. never (λ i l. elim (same_or_not i n) [
      | inl e ↦ subst P (sym e) top
      | inr d ↦ low i (omega arith)
    ])))

-- so it can be told of each number whether it lies in a bounded set
pub told_below : (P : ℕ → Type 0) (n : ℕ) → ((i : ℕ) → P i → i < n) → NotNot ((i : ℕ) → P i ⊎ (P i → ⊥))
told_below P n bound never =
    each_below (λ i. P i ⊎ (P i → ⊥)) n (λ i l. either_way (P i)) (λ low. never (λ i. elim (below i) [
      | inl l ↦ low i l
      | inr h ↦ inr (λ p. let l = bound i p in absurd (omega arith))
    ]))
  where
    below : (i : ℕ) → (i < n) ⊎ (i < n → ⊥)
    below i = grind arith

module _ {T : Type 0} (P : ℕ → T → Type 0) (default : T) where
  pick : (f : ℕ → T) (n : ℕ) (x : T) (i : ℕ) → (i ≡ n) ⊎ (i ≢ n) → T
  pick f n x i (inl e) = x
  pick f n x i (inr d) = f i

  picked : (f : ℕ → T) (n : ℕ) (x : T) → P n x → ((i : ℕ) → i < n → P i (f i)) → (i : ℕ) → i < suc n → (c : (i ≡ n) ⊎ (i ≢ n)) → P i (pick f n x i c)
  unfolding pick
  picked f n x top low i l (inl e) = subst (λ (j : ℕ). P j x) (sym e) top
  picked f n x top low i l (inr d) = low i (omega arith)

  -- a function that chooses for the numbers below a bound
  pub choose : (n : ℕ) → ((i : ℕ) → i < n → NotNot ((x : T) × P i x)) → NotNot ((f : ℕ → T) × ((i : ℕ) → i < n → P i (f i)))
  choose zero h never = never (λ i. default, λ i l. absurd (omega arith))
  choose (suc n) h never =
      choose n (λ i l. h i (omega arith)) (λ low. h n (omega arith) (λ top.
      never (λ i. pick low.0 n top.0 i (same_or_not i n), λ i l. picked low.0 n top.0 top.1 low.1 i l (same_or_not i n))))
