-- Where a link stands beside the link of an insertion.
use Rattle.std.proofs.Common.{ℕ, zero, suc, ◌≡◌, ◌≢◌, ◌+◌, ◌<◌, refl, ap, inl, inr, ⊎_elim, ◌∙◌, arith}
use Rattle.std.proofs.lemmas.Bool.{cases_order}
use Rattle.map_defs.specs.Kind.{Kind, alpha, beta, inverse, place, IsDistant}
use Rattle.map_defs.specs.Insertion.{IsJustBelow}
use Rattle.link_laws.proofs.Basics.{place_inverse, same_or_not}

-- the link i itself, the next, one just below, or one that is distant
pub data IsBeside (k : Kind) (i t : ℕ) : Type 0 where
  same : t ≡ i → IsBeside k i t
  next : t ≡ suc i → IsBeside k i t
  below : IsJustBelow k i t → IsBeside k i t
  far : IsDistant k i t → IsBeside k i t

by_place : (k : Kind) (i t : ℕ) → (place k t ≡ place k i → t ≡ i) → (place k t ≡ place k i + 1 → t ≡ suc i) → IsBeside k i t
unfolding IsDistant
by_place k i t e s = ⊎_elim (λ (h : place k t ≡ place k i). same (e h))
    (λ h. ⊎_elim
    (λ (l : place k t < place k i). ⊎_elim (λ (b : place k t + 1 ≡ place k i). below b) (λ (n : place k t + 1 ≢ place k i). far (inr (omega arith))) (same_or_not (place k t + 1) (place k i)))
    (λ (l : place k i < place k t). ⊎_elim (λ (b : place k t ≡ place k i + 1). next (s b)) (λ (n : place k t ≢ place k i + 1). far (inl (omega arith))) (same_or_not (place k t) (place k i + 1)))
    h)
    (cases_order (place k t) (place k i))

pub link_cases : (k : Kind) (i t : ℕ) → inverse k i ≡ i → IsBeside k i t
link_cases alpha i t own = by_place alpha i t (λ e. e) (λ e. omega arith)
link_cases beta zero t own = absurd (omega arith)
link_cases beta (suc zero) t own = absurd (omega arith)
link_cases beta (suc (suc i)) zero own = by_place beta (suc (suc i)) zero (λ (e : 1 ≡ suc (suc i)). absurd (omega arith)) (λ (e : 1 ≡ suc (suc i) + 1). absurd (omega arith))
link_cases beta (suc (suc i)) (suc t) own = by_place beta (suc (suc i)) (suc t) (λ e. e) (λ (e : suc t ≡ suc (suc i) + 1). omega arith)

-- the next link of one that is its own inverse is its own inverse
pub next_own : (k : Kind) (i : ℕ) → inverse k i ≡ i → inverse k (suc i) ≡ suc i
next_own alpha i own = refl
next_own beta zero own = absurd (omega arith)
next_own beta (suc i) own = refl

pub below_inverse : (k : Kind) (i t : ℕ) → IsJustBelow k i t → IsJustBelow k i (inverse k t)
below_inverse k i t h = ap (λ p. p + 1) (place_inverse k t) ∙ h

-- links that stand at one place are not distant, nor is a link from the next place
pub place_near : (k : Kind) (t j : ℕ) → place k t ≡ place k j → IsDistant k t j → ⊥
unfolding IsDistant
place_near k t j e (inl p) = omega arith
place_near k t j e (inr p) = omega arith

pub below_apart : (k : Kind) (i t : ℕ) → IsJustBelow k i t → t ≢ i
below_apart k i t h e = let q : place k t ≡ place k i = ap (place k) e in omega arith

pub next_place : (k : Kind) (i : ℕ) → inverse k i ≡ i → place k (suc i) ≡ place k i + 1
next_place alpha i own = omega arith
next_place beta zero own = absurd (omega arith)
next_place beta (suc i) own = omega arith

-- a link is not its next link, and what is distant from a link's inverse
pub far_from_next : (k : Kind) (i t : ℕ) → inverse k i ≡ i → IsJustBelow k i t → IsDistant k (suc i) t
unfolding IsDistant
far_from_next k i t own h = inr (omega (arith, next_place k i own))
