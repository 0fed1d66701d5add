-- The dual of a generalized map obeys the laws, and its own dual is the map.
use Rattle.std.proofs.Common.{ℕ, ◌≡◌, ◌≢◌, ◌⊎◌, ◌≤◌, ◌<◌, ◌-◌, ◌+◌, inl, inr, refl, sym, ap, ◌∙◌, arith}
use Rattle.map_defs.specs.Kind.{alpha, IsDistant}
use Rattle.map_defs.specs.Links.{Links, HasDimension}
use Rattle.map_defs.specs.Laws.{Laws}
use Rattle.map_defs.specs.Dual.{IsAlphaDual}
use Rattle.link_laws.proofs.Basics.{distant_alpha, distant_alpha_is}

pub low_or_high : (i n : ℕ) → (i ≤ n) ⊎ (n < i)
low_or_high i n = grind arith

module _ (n : ℕ) (L N : Links) (w : Laws alpha L) (b : IsAlphaDual n L N) where
  far : (i j : ℕ) → i ≤ n → j ≤ n → IsDistant alpha i j → IsDistant alpha (n - i) (n - j)
  far i j hi hj h = distant_alpha (n - i) (n - j) (go (distant_alpha_is i j h))
    where
      go : (i + 2 ≤ j) ⊎ (j + 2 ≤ i) → (n - i + 2 ≤ n - j) ⊎ (n - j + 2 ≤ n - i)
      go (inl p) = inr (omega arith)
      go (inr p) = inl (omega arith)

  nil : (i : ℕ) → N i 0 ≡ 0
  nil i = go (low_or_high i n)
    where
      go : (i ≤ n) ⊎ (n < i) → N i 0 ≡ 0
      go (inl h) = b.reversed i 0 h ∙ w.nil (n - i)
      go (inr h) = b.above i 0 h

  back : (i x : ℕ) → N i x ≢ 0 → N i (N i x) ≡ x
  back i x m = go (low_or_high i n)
    where
      go : (i ≤ n) ⊎ (n < i) → N i (N i x) ≡ x
      go (inl h) = cc (b.reversed i x h, b.reversed i (L (n - i) x) h, w.back (n - i) x (λ z. m (b.reversed i x h ∙ z)))
      go (inr h) = absurd (m (b.above i x h))

  apart : (i x : ℕ) → x ≢ 0 → N i x ≢ x
  apart i x m e = go (low_or_high i n)
    where
      go : (i ≤ n) ⊎ (n < i) → ⊥
      go (inl h) = w.apart (n - i) x refl m (sym (b.reversed i x h) ∙ e)
      go (inr h) = m (sym e ∙ b.above i x h)

  square : (i j x : ℕ) → IsDistant alpha i j → N i (N j x) ≡ N j (N i x)
  square i j x h = go (low_or_high i n) (low_or_high j n)
    where
      go : (i ≤ n) ⊎ (n < i) → (j ≤ n) ⊎ (n < j) → N i (N j x) ≡ N j (N i x)
      go (inl p) (inl q) = cc (b.reversed i x p, b.reversed j x q, b.reversed i (L (n - j) x) p, b.reversed j (L (n - i) x) q, w.square (n - i) (n - j) x (far i j p q h))
      go (inl p) (inr q) = cc (b.above j x q, b.above j (N i x) q, nil i)
      go (inr p) q = cc (b.above i x p, b.above i (N j x) p, nil j)

  pub alpha_dual_laws : Laws alpha N
  alpha_dual_laws = record { nil = nil; back = back; apart = λ i x o. apart i x; square = square }

  pub alpha_dual_back : HasDimension n L → IsAlphaDual n N L
  alpha_dual_back high = record { reversed = λ i d h. sym (b.reversed (n - i) d (omega arith) ∙ ap (λ s. L s d) (twice i h)); above = high }
    where
      twice : (i : ℕ) → i ≤ n → n - (n - i) ≡ i
      twice i h = omega arith

pub alpha_dual_one : (n : ℕ) (L N M : Links) → IsAlphaDual n L N → IsAlphaDual n L M → (i d : ℕ) → N i d ≡ M i d
alpha_dual_one n L N M b c i d = go (low_or_high i n)
  where
    go : (i ≤ n) ⊎ (n < i) → N i d ≡ M i d
    go (inl h) = b.reversed i d h ∙ sym (c.reversed i d h)
    go (inr h) = b.above i d h ∙ sym (c.above i d h)
