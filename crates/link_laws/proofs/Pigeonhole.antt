-- More numbers than places: two of them have the same place.
use Rattle.std.proofs.Common.{ℕ, zero, suc, ◌≡◌, ◌≢◌, ◌<◌, ◌≤◌, ◌⊎◌, sym, ap, inl, inr, ⊎_elim, ◌∙◌, arith}
use Rattle.link_laws.proofs.Basics.{same_or_not}

-- f meets v below n, or not
pub meets_or_not : (f : ℕ → ℕ) (v n : ℕ) → ((p : ℕ) × (p < n) × (f p ≡ v)) ⊎ ((p : ℕ) → p < n → f p ≢ v)
meets_or_not f v zero = inr (λ p l e. omega arith)
meets_or_not f v (suc n) = ⊎_elim
    (λ (e : f n ≡ v). inl (n, omega arith, e))
    (λ (ne : f n ≢ v). ⊎_elim
    (λ (h : (p : ℕ) × (p < n) × (f p ≡ v)). inl (h.0, omega arith, h.2))
    (λ (h : (p : ℕ) → p < n → f p ≢ v). inr (λ p l e. ⊎_elim (λ (q : p ≡ n). ne (ap f (sym q) ∙ e)) (λ (q : p ≢ n). h p (omega arith) e) (same_or_not p n)))
    (meets_or_not f v n))
    (same_or_not (f n) v)

-- f without the place n: what had it gets the place v instead
moved : ℕ → ℕ → ℕ → ℕ
moved n v a = ⊎_elim (λ _. v) (λ _. a) (same_or_not a n)

moved_low : (n v a : ℕ) → a < suc n → v < n → moved n v a < n
unfolding moved
moved_low n v a l lv = elim (same_or_not a n) as (λ (s : (a ≡ n) ⊎ (a ≢ n)). ⊎_elim (λ _. v) (λ _. a) s < n) [ inl e ↦ lv | inr ne ↦ omega arith ]

moved_one : (n v a b : ℕ) → a ≢ v → b ≢ v → moved n v a ≡ moved n v b → a ≡ b
unfolding moved
moved_one n v a b na nb = elim (same_or_not a n) as (λ (s : (a ≡ n) ⊎ (a ≢ n)). ⊎_elim (λ _. v) (λ _. a) s ≡ moved n v b → a ≡ b) [
  | inl e ↦ elim (same_or_not b n) as (λ (s : (b ≡ n) ⊎ (b ≢ n)). v ≡ ⊎_elim (λ _. v) (λ _. b) s → a ≡ b) [ inl g ↦ λ _. e ∙ sym g | inr g ↦ λ h. absurd (nb (sym h)) ]
  | inr e ↦ elim (same_or_not b n) as (λ (s : (b ≡ n) ⊎ (b ≢ n)). a ≡ ⊎_elim (λ _. v) (λ _. b) s → a ≡ b) [ inl g ↦ λ h. absurd (na h) | inr g ↦ λ h. h ]
]

-- of n + 1 numbers below n two are the same
pub pigeonhole : (n : ℕ) (f : ℕ → ℕ) → ((p : ℕ) → p ≤ n → f p < n) → (p : ℕ) × (q : ℕ) × (p < q) × (q ≤ n) × (f p ≡ f q)
pigeonhole zero f low = absurd (let h : f 0 < 0 = low 0 (omega arith) in omega arith)
pigeonhole (suc n) f low = ⊎_elim
    (λ (h : (p : ℕ) × (p < suc n) × (f p ≡ f (suc n))). (h.0, suc n, h.1, omega arith, h.2))
    (λ (h : (p : ℕ) → p < suc n → f p ≢ f (suc n)).
    let v : ℕ = f (suc n) in
    ⊎_elim
    (λ (e : v ≡ n).
    let r : (p : ℕ) × (q : ℕ) × (p < q) × (q ≤ n) × (f p ≡ f q) = pigeonhole n f (λ p l. let a : f p < suc n = low p (omega arith) in let b : f p ≢ f (suc n) = h p (omega arith) in omega arith) in
    (r.0, r.1, r.2, omega arith, r.4))
    (λ (ne : v ≢ n).
    let lv : v < n = let a : f (suc n) < suc n = low (suc n) (omega arith) in omega arith in
    let r : (p : ℕ) × (q : ℕ) × (p < q) × (q ≤ n) × (moved n v (f p) ≡ moved n v (f q)) = pigeonhole n (λ p. moved n v (f p)) (λ p l. moved_low n v (f p) (low p (omega arith)) lv) in
    (r.0, r.1, r.2, omega arith, moved_one n v (f r.0) (f r.1) (h r.0 (omega arith)) (h r.1 (omega arith)) r.4))
    (same_or_not v n))
    (meets_or_not f (f (suc n)) (suc n))
