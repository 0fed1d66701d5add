-- The total of the values of one dimension, one value after another.
use Rattle.std.proofs.Common.{◌≡◌, ℕ, suc, ◌+◌, ◌<◌, ◌+ℤ◌, List, ◌∷◌, length, get_or, drop, refl, sym, ap, subst, ◌∙◌, arith}
use Rattle.std.proofs.Math.Seq.{drop-cons}
use Rattle.machine_defs.specs.Listing.{ListValue, listed_total}

total-first : (v : ListValue) (values : List ListValue) → v.dim ≡ 2 → (listed_total 2 (v ∷ values)).a ≡ v.value.a +ℤ (listed_total 2 values).a
total-first v values is = rw is refl

-- the next value is the first one of those that are left
pub total-next : (values : List ListValue) (i : ℕ) (v : ListValue) → i < length values → v ≡ get_or values i v → v.dim ≡ 2
    → (listed_total 2 (drop i values)).a ≡ v.value.a +ℤ (listed_total 2 (drop (i + 1) values)).a
total-next values i v lt is dim =
    let same : suc i ≡ i + 1 = omega arith in
    let cut = subst (λ (n : ℕ). drop i values ≡ get_or values i v ∷ drop n values) same (drop-cons values i v lt) in
    let first : drop i values ≡ v ∷ drop (i + 1) values = cut ∙ ap (λ (x : ListValue). x ∷ drop (i + 1) values) (sym is) in
    ap (λ (left : List ListValue). (listed_total 2 left).a) first ∙ total-first v (drop (i + 1) values) dim
