-- Numbers are equal or not, and what follows; the inverse link and distant links.
use Rattle.std.proofs.Common.{ℕ, zero, suc, ◌≡◌, ◌≢◌, ◌+◌, ◌≤◌, ◌⊎◌, refl, ap, inl, inr, ⊎_elim, arith}
use Rattle.std.proofs.lemmas.Bool.Decides.{eqb_tells}
use Rattle.map_defs.specs.Kind.{Kind, alpha, beta, inverse, place, IsDistant}

-- two numbers are the same or not
pub same_or_not : (a b : ℕ) → (a ≡ b) ⊎ (a ≢ b)
same_or_not a b = ⊎_elim (λ p. inl p.1) (λ p. inr p.1) (eqb_tells a b)

-- An equation of numbers may be proved by cases on any P.
pub by_cases : (P : Type 0) (a b : ℕ) → (P → a ≡ b) → ((P → ⊥) → a ≡ b) → a ≡ b
by_cases P a b yes_p no_p = ⊎_elim (λ e. e) (λ n. no_p (λ p. n (yes_p p))) (same_or_not a b)

pub stable : (a b : ℕ) → ((a ≢ b) → ⊥) → a ≡ b
stable a b nn = ⊎_elim (λ e. e) (λ n. absurd (nn n)) (same_or_not a b)

pub inverse_twice : (k : Kind) (i : ℕ) → inverse k (inverse k i) ≡ i
inverse_twice alpha i = refl
inverse_twice beta zero = refl
inverse_twice beta (suc zero) = refl
inverse_twice beta (suc (suc i)) = refl

pub place_inverse : (k : Kind) (i : ℕ) → place k (inverse k i) ≡ place k i
place_inverse alpha i = refl
place_inverse beta zero = refl
place_inverse beta (suc zero) = refl
place_inverse beta (suc (suc i)) = refl

-- two links with different places are different, and so are their inverses
pub IsDistant-turned : (k : Kind) (i j : ℕ) → IsDistant k i j → IsDistant k j i
unfolding IsDistant
IsDistant-turned k i j (inl p) = inr p
IsDistant-turned k i j (inr p) = inl p

pub IsDistant-inverse_left : (k : Kind) (i j : ℕ) → IsDistant k i j → IsDistant k (inverse k i) j
unfolding IsDistant
IsDistant-inverse_left k i j (inl p) = inl (omega (arith, place_inverse k i))
IsDistant-inverse_left k i j (inr p) = inr (omega (arith, place_inverse k i))

pub IsDistant-inverse_right : (k : Kind) (i j : ℕ) → IsDistant k i j → IsDistant k i (inverse k j)
unfolding IsDistant
IsDistant-inverse_right k i j (inl p) = inl (omega (arith, place_inverse k j))
IsDistant-inverse_right k i j (inr p) = inr (omega (arith, place_inverse k j))

pub IsDistant-inverses : (k : Kind) (i j : ℕ) → IsDistant k i j → IsDistant k (inverse k i) (inverse k j)
IsDistant-inverses k i j h = IsDistant-inverse_right k (inverse k i) j (IsDistant-inverse_left k i j h)

pub IsDistant-apart : (k : Kind) (i j : ℕ) → IsDistant k i j → i ≢ j
unfolding IsDistant
IsDistant-apart k i j (inl p) e = omega (arith, ap (place k) e)
IsDistant-apart k i j (inr p) e = omega (arith, ap (place k) e)

pub IsDistant-apart_inverse : (k : Kind) (i j : ℕ) → IsDistant k i j → inverse k i ≢ j
IsDistant-apart_inverse k i j h = IsDistant-apart k (inverse k i) j (IsDistant-inverse_left k i j h)

-- a link that is distant from another is its own inverse, or the other is
pub IsDistant-own : (k : Kind) (i j : ℕ) → IsDistant k i j → (inverse k i ≡ i) ⊎ (inverse k j ≡ j)
unfolding IsDistant
IsDistant-own alpha i j h = inl refl
IsDistant-own beta zero zero h = absurd (⊎_elim (λ (p : 1 + 2 ≤ 1). omega arith) (λ (p : 1 + 2 ≤ 1). omega arith) h)
IsDistant-own beta zero (suc zero) h = absurd (⊎_elim (λ (p : 1 + 2 ≤ 1). omega arith) (λ (p : 1 + 2 ≤ 1). omega arith) h)
IsDistant-own beta zero (suc (suc j)) h = inr refl
IsDistant-own beta (suc zero) zero h = absurd (⊎_elim (λ (p : 1 + 2 ≤ 1). omega arith) (λ (p : 1 + 2 ≤ 1). omega arith) h)
IsDistant-own beta (suc zero) (suc zero) h = absurd (⊎_elim (λ (p : 1 + 2 ≤ 1). omega arith) (λ (p : 1 + 2 ≤ 1). omega arith) h)
IsDistant-own beta (suc zero) (suc (suc j)) h = inr refl
IsDistant-own beta (suc (suc i)) j h = inl refl

-- the inverse of a link of a map of dimension 2 or more is one of its links
pub inverse_within : (k : Kind) (n i : ℕ) → 2 ≤ n → i ≤ n → inverse k i ≤ n
inverse_within alpha n i low within = within
inverse_within beta n zero low within = omega arith
inverse_within beta n (suc zero) low within = omega arith
inverse_within beta n (suc (suc i)) low within = within

-- a link from 2 upwards is its own inverse
pub inverse_own : (k : Kind) (i : ℕ) → 2 ≤ i → inverse k i ≡ i
inverse_own alpha i h = refl
inverse_own beta zero h = absurd (omega arith)
inverse_own beta (suc zero) h = absurd (omega arith)
inverse_own beta (suc (suc i)) h = refl

-- in a generalized map links are distant if their numbers are
pub distant_alpha : (i j : ℕ) → (i + 2 ≤ j) ⊎ (j + 2 ≤ i) → IsDistant alpha i j
unfolding IsDistant
distant_alpha i j h = h

pub distant_alpha_is : (i j : ℕ) → IsDistant alpha i j → (i + 2 ≤ j) ⊎ (j + 2 ≤ i)
unfolding IsDistant
distant_alpha_is i j h = h

-- in a combinatorial map a link from 3 upwards is distant from links 0 and 1
pub distant_zero : (j : ℕ) → 3 ≤ j → IsDistant beta 0 j
unfolding IsDistant
distant_zero zero h = absurd (omega arith)
distant_zero (suc j) h = inl (omega arith)

pub distant_one : (j : ℕ) → 3 ≤ j → IsDistant beta 1 j
unfolding IsDistant
distant_one zero h = absurd (omega arith)
distant_one (suc j) h = inl (omega arith)

pub distant_zero_is : (j : ℕ) → IsDistant beta 0 j → 3 ≤ j
unfolding IsDistant
distant_zero_is zero h = absurd (⊎_elim (λ (p : 1 + 2 ≤ 1). omega arith) (λ (p : 1 + 2 ≤ 1). omega arith) h)
distant_zero_is (suc j) (inl p) = omega arith
distant_zero_is (suc j) (inr p) = absurd (omega arith)

pub distant_one_is : (j : ℕ) → IsDistant beta 1 j → 3 ≤ j
unfolding IsDistant
distant_one_is zero h = absurd (⊎_elim (λ (p : 1 + 2 ≤ 1). omega arith) (λ (p : 1 + 2 ≤ 1). omega arith) h)
distant_one_is (suc j) (inl p) = omega arith
distant_one_is (suc j) (inr p) = absurd (omega arith)

-- and links from 2 upwards are distant if their numbers are
pub distant_high : (k : Kind) (i j : ℕ) → 1 ≤ i → i + 2 ≤ j → IsDistant k i j
unfolding IsDistant
distant_high alpha i j h p = inl p
distant_high beta zero j h p = absurd (omega arith)
distant_high beta (suc i) zero h p = absurd (omega arith)
distant_high beta (suc i) (suc j) h p = inl p
