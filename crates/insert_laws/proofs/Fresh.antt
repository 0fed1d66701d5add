-- New darts are no old ones.
use Rattle.std.proofs.Common.{ℕ, ◌≡◌, ◌≢◌, ◌⊎◌, sym, ap, inl, inr, ◌∙◌}
use Rattle.map_defs.specs.Kind.{Kind, inverse}
use Rattle.map_defs.specs.Links.{Links}
use Rattle.map_defs.specs.Laws.{Laws}
use Rattle.map_defs.specs.Births.{IsFresh}
use Rattle.link_laws.proofs.LawFacts.{dart_of_link}

-- z is a new dart
abbrev pub IsNew : (ℕ → Type 0) → (ℕ → ℕ) → ℕ → Type 0
IsNew K star z = (x : ℕ) × K x × (z ≡ star x)

-- a dart of K, or none
abbrev pub InOrNone : (ℕ → Type 0) → ℕ → Type 0
InOrNone K x = K x ⊎ (x ≡ 0)

module _ (k : Kind) (L : Links) (w : Laws k L) (K : ℕ → Type 0) (star : ℕ → ℕ) (fresh : IsFresh L K star) where
  -- no old link leads to a new dart
  pub fresh_link : (t z : ℕ) → IsNew K star (L t z) → ⊥
  fresh_link t z (x, h, e) =
      let n : L t z ≢ 0 = λ o. fresh.dart x h (sym e ∙ o) in
      let b : L (inverse k t) (L t z) ≡ z = w.back t z n in
      dart_of_link k L w t z n (sym b ∙ (ap (L (inverse k t)) e ∙ fresh.unlinked (inverse k t) x h))

  pub fresh_old : (z : ℕ) → K z → IsNew K star z → ⊥
  fresh_old z h (x, g, e) = fresh.outside x g (rw e at h)

  pub fresh_none : IsNew K star 0 → ⊥
  fresh_none (x, h, e) = fresh.dart x h (sym e)

  -- the new dart of none is none
  pub fresh_zero : (u : ℕ) → InOrNone K u → star u ≢ 0 → K u
  fresh_zero u (inl h) n = h
  fresh_zero u (inr o) n = absurd (n (ap star o ∙ fresh.nothing))
