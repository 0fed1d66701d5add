-- The parts of a number that is dealt out add up to it.
use Rattle.std.proofs.Common.{ℕ, zero, suc, ◌≡◌, ◌⊎◌, ◌<◌, ◌≤◌, min, ◌+ℤ◌, ◌*ℤ◌, ℤ, pos, sym, ap, ◌∙◌, inl, inr, cond, int_lt, arith}
use Rattle.std.proofs.lemmas.Int.{ints}
use Rattle.std.specs.Int.{int_div_euclid, int_rem_euclid}
use Rattle.std.proofs.Math.IntN.{suc_ℤ-*ℤ, *ℤ_comm, *ℤ-zero}
use Rattle.map_defs.specs.Values.{dealt, total}
use Rattle.value_laws.proofs.Rules.{rest_below, quotient_and_rest}

share_at : (q : ℤ) (n r : ℕ) → ((n < r) × (cond (int_lt (pos n) (pos r)) (q +ℤ pos 1) q ≡ q +ℤ pos 1)) ⊎ ((r ≤ n) × (cond (int_lt (pos n) (pos r)) (q +ℤ pos 1) q ≡ q))
share_at q n r = grind arith

one_more : (q : ℤ) (n : ℕ) → q *ℤ pos (suc n) ≡ q *ℤ pos n +ℤ q
one_more q n = *ℤ_comm q (pos (suc n)) ∙ (suc_ℤ-*ℤ (pos n) q ∙ ap (λ z. z +ℤ q) (*ℤ_comm (pos n) q))

added : (s t q : ℤ) (m : ℕ) → s ≡ t +ℤ pos m → s +ℤ (q +ℤ pos 1) ≡ (t +ℤ q) +ℤ pos (suc m)
added s t q m e = omega (arith, ints)

added_plain : (s t q : ℤ) (m : ℕ) → s ≡ t +ℤ pos m → s +ℤ q ≡ (t +ℤ q) +ℤ pos m
added_plain s t q m e = omega (arith, ints)

total_parts : (q : ℤ) (r n : ℕ) → total n (λ p. cond (int_lt (pos p) (pos r)) (q +ℤ pos 1) q) ≡ q *ℤ pos n +ℤ pos (min n r)
total_parts q r zero = none (min 0 r) (omega arith)
  where
    none : (m : ℕ) → m ≡ 0 → pos 0 ≡ q *ℤ pos 0 +ℤ pos m
    none m e = cc (e, *ℤ-zero q)
total_parts q r (suc n) = go (share_at q n r) (total_parts q r n)
  where
    before : ℤ
    before = total n (λ p. cond (int_lt (pos p) (pos r)) (q +ℤ pos 1) q)

    lower : n < r → min (suc n) r ≡ suc (min n r)
    lower h = omega arith

    higher : r ≤ n → min (suc n) r ≡ min n r
    higher h = omega arith

    go : ((n < r) × (cond (int_lt (pos n) (pos r)) (q +ℤ pos 1) q ≡ q +ℤ pos 1)) ⊎ ((r ≤ n) × (cond (int_lt (pos n) (pos r)) (q +ℤ pos 1) q ≡ q))
        → before ≡ q *ℤ pos n +ℤ pos (min n r) → before +ℤ cond (int_lt (pos n) (pos r)) (q +ℤ pos 1) q ≡ q *ℤ pos (suc n) +ℤ pos (min (suc n) r)
    go (inl p) e = ap (λ z. before +ℤ z) p.1 ∙ (added before (q *ℤ pos n) q (min n r) e ∙ cc (one_more q n, lower p.0))
    go (inr p) e = ap (λ z. before +ℤ z) p.1 ∙ (added_plain before (q *ℤ pos n) q (min n r) e ∙ cc (one_more q n, higher p.0))

pub parts_add_up : (k : ℕ) (v : ℤ) → 0 < k → total k (λ p. dealt k p v) ≡ v
parts_add_up k v h = go (rest_below k v h)
  where
    go : (r : ℕ) × (r < k) × (int_rem_euclid v (pos k) ≡ pos r) → total k (λ p. dealt k p v) ≡ v
    go w =
        let low = w.1 in
        let all : min k w.0 ≡ w.0 = omega arith in
        ap (λ z. total k (λ p. cond (int_lt (pos p) z) (int_div_euclid v (pos k) +ℤ pos 1) (int_div_euclid v (pos k)))) w.2
        ∙ (total_parts (int_div_euclid v (pos k)) w.0 k
        ∙ (ap (λ z. int_div_euclid v (pos k) *ℤ pos k +ℤ pos z) all
        ∙ (ap (λ z. int_div_euclid v (pos k) *ℤ pos k +ℤ z) (sym w.2) ∙ sym (quotient_and_rest k v h))))
