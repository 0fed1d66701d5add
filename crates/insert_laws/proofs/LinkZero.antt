-- A link that leads back where a one-to-one link leads on can be found.
use Rattle.std.proofs.Common.{ℕ, zero, suc, ◌≡◌, ◌≢◌, ◌<◌, ◌≤◌, ◌⊎◌, ◌↔◌, refl, sym, ap, inl, inr, ⊎_elim, ◌∙◌, arith}
use Rattle.map_defs.specs.Links.{Links, IsTurned}
use Rattle.link_laws.proofs.Pigeonhole.{meets_or_not}

abbrev FoundBelow : (ℕ → ℕ) → ℕ → ℕ → Type 0
FoundBelow f y n = ((p : ℕ) × (p < n) × (f p ≡ y)) ⊎ ((p : ℕ) → p < n → f p ≢ y)

-- the dart that was found, or none
found_or_none : (f : ℕ → ℕ) (y n : ℕ) → FoundBelow f y n → ℕ
found_or_none f y n s = ⊎_elim (λ h. h.0) (λ _. 0) s

-- the dart up to the bound from which f leads to y, or none
pub before : (ℕ → ℕ) → ℕ → ℕ → ℕ
before f bound zero = 0
before f bound (suc y) = found_or_none f (suc y) (suc bound) (meets_or_not f (suc y) (suc bound))

module _ (f : ℕ → ℕ) (bound : ℕ) (low : (x : ℕ) → f x ≢ 0 → x ≤ bound) (one : (x y : ℕ) → f x ≢ 0 → f x ≡ f y → x ≡ y) where
  found_back : (x y : ℕ) → x ≢ 0 → y ≢ 0 → (s : FoundBelow f y (suc bound)) → (f x ≡ y) ↔ (found_or_none f y (suc bound) s ≡ x)
  unfolding found_or_none
  found_back x y hx hy (inl (p, l, q)) = ((λ e. one p x (λ o. hy (sym q ∙ o)) (q ∙ sym e)), (λ e. ap f (sym e) ∙ q))
  found_back x y hx hy (inr none) = ((λ e. absurd (none x (let l : x ≤ bound = low x (λ o. hy (sym e ∙ o)) in omega arith) e)), (λ e. absurd (hx (sym e))))

  pub before_back : (x y : ℕ) → x ≢ 0 → y ≢ 0 → (f x ≡ y) ↔ (before f bound y ≡ x)
  unfolding before
  before_back x zero hx hy = absurd (hy refl)
  before_back x (suc y) hx hy = found_back x (suc y) hx hy (meets_or_not f (suc y) (suc bound))

  pub link_zero_found : (g : ℕ → ℕ) × (g 0 ≡ 0) × ((x y : ℕ) → x ≢ 0 → y ≢ 0 → (f x ≡ y) ↔ (g y ≡ x))
  unfolding before
  link_zero_found = (before f bound, refl, before_back)

-- links with another link 0
pub with_zero : (ℕ → ℕ) → Links → Links
with_zero g M zero x = g x
with_zero g M (suc t) x = M (suc t) x

pub zero_apart : (g : ℕ → ℕ) (M : Links) (t x : ℕ) → 1 ≤ t → with_zero g M t x ≡ M t x
unfolding with_zero
zero_apart g M zero x l = absurd (omega arith)
zero_apart g M (suc t) x l = refl

-- links whose link 1 is one-to-one get the link 0 that leads back
pub turned_links : (M : Links) (bound : ℕ) → ((x : ℕ) → M 1 x ≢ 0 → x ≤ bound) → ((x y : ℕ) → M 1 x ≢ 0 → M 1 x ≡ M 1 y → x ≡ y)
    → (N : Links) × ((t x : ℕ) → 1 ≤ t → N t x ≡ M t x) × IsTurned N
unfolding with_zero
turned_links M bound low one =
    let found : (g : ℕ → ℕ) × (g 0 ≡ 0) × ((x y : ℕ) → x ≢ 0 → y ≢ 0 → (M 1 x ≡ y) ↔ (g y ≡ x)) = link_zero_found (M 1) bound low one in
    (with_zero found.0 M, zero_apart found.0 M, record { nothing = found.1; back = found.2 })
