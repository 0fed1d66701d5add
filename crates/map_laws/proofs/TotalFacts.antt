-- The total of the values of one dimension, one value after another.
use Rattle.std.proofs.Common.{◌≡◌, ◌≢◌, ◌⊎◌, ℕ, suc, ◌+◌, ◌<◌, List, ◌∷◌, length, get_or, drop, true, false, nat_eq, refl, sym, ap, subst, ◌∙◌, inl, inr, arith}
use Rattle.std.proofs.Math.Seq.{drop-cons}
use Rattle.map_defs.specs.Totals.{plain_sum}
use Rattle.machine_defs.specs.Listing.{ListValue, listed_total}

told-eq : (a b : ℕ) → ((a ≡ b) × (nat_eq a b ≡ true)) ⊎ ((a ≢ b) × (nat_eq a b ≡ false))
told-eq a b = grind arith

total-first : (i : ℕ) (v : ListValue) (values : List ListValue) → v.dim ≡ i → listed_total i (v ∷ values) ≡ plain_sum v.value (listed_total i values)
total-first i v values is = elim (told-eq v.dim i) [ inl p ↦ rw p.1 refl | inr p ↦ absurd (p.0 is) ]

-- the next value is the first one of those that are left
pub total-next : (i : ℕ) (values : List ListValue) (k : ℕ) (v : ListValue) → k < length values → v ≡ get_or values k v → v.dim ≡ i
    → listed_total i (drop k values) ≡ plain_sum v.value (listed_total i (drop (k + 1) values))
total-next i values k v lt is dim =
    let same : suc k ≡ k + 1 = omega arith in
    let cut = subst (λ (n : ℕ). drop k values ≡ get_or values k v ∷ drop n values) same (drop-cons values k v lt) in
    let first : drop k values ≡ v ∷ drop (k + 1) values = cut ∙ ap (λ (x : ListValue). x ∷ drop (k + 1) values) (sym is) in
    ap (listed_total i) first ∙ total-first i v (drop (k + 1) values) dim
