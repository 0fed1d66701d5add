-- What a link of a new dart becomes: it is one of four, and it is told which.
use Rattle.std.proofs.Common.{ℕ, zero, suc, ◌≡◌, ◌≢◌, ◌+◌, ◌<◌, ◌≤◌, refl, sym, ap, ◌∙◌, arith}
use Rattle.map_defs.specs.Kind.{Kind, alpha, beta, inverse, IsDistant}
use Rattle.map_defs.specs.Links.{Links, HasDimension}
use Rattle.map_defs.specs.Insertion.{IsJustBelow}
use Rattle.map_defs.specs.Closing.{IsAround}
use Rattle.link_laws.proofs.Basics.{IsDistant-apart, inverse_own}
use Rattle.link_laws.proofs.Walking.{walk_one}
use Rattle.insert_laws.proofs.Places.{IsBeside, same, next, below, far, link_cases, below_apart}
use Rattle.cell_edit.proofs.Beyond.{far-off, far-below, next-above}
use Rattle.map_close.specs.NewLinks.{IsNewLink}

-- a link one place below another is a lower one
pub below-less : (k : Kind) (i t : ℕ) → inverse k i ≡ i → IsJustBelow k i t → t < i
below-less alpha i t own b = omega arith
below-less beta zero zero own b = absurd (omega arith)
below-less beta (suc i) zero own b = omega arith
below-less beta zero (suc t) own b = absurd (omega arith)
below-less beta (suc i) (suc t) own b = omega arith

-- the link before another is one place below it
pub before-below : (k : Kind) (i t : ℕ) → inverse k i ≡ i → suc t ≡ i → IsJustBelow k i t
before-below alpha i t own e = omega arith
before-below beta zero t own e = absurd (omega arith)
before-below beta (suc zero) t own e = absurd (omega arith)
before-below beta (suc (suc i)) zero own e = absurd (omega arith)
before-below beta (suc (suc i)) (suc t) own e = omega arith

-- a link that is not the link itself, nor the next one, nor distant from it is just below
pub else-below : (k : Kind) (i t : ℕ) → inverse k i ≡ i → t ≢ i → t ≢ i + 1 → (IsDistant k i t → ⊥) → IsJustBelow k i t
else-below k i t own other beyond near = cases (link_cases k i t own)
  where
    cases : IsBeside k i t → IsJustBelow k i t
    cases (same e) = absurd (other (omega (arith, e)))
    cases (next e) = absurd (beyond (omega (arith, e)))
    cases (below b) = b
    cases (far f) = absurd (near f)

module _ (k : Kind) (i : ℕ) (own : inverse k i ≡ i) (L : Links) (star : ℕ → ℕ) (x : ℕ) where
  -- the next link as it is named elsewhere
  after : (t : ℕ) → t ≡ suc i → t ≡ i + 1
  after t e = omega arith

  pub own-link : IsNewLink k i L star x i x
  own-link = record {
    own = λ e. refl;
    along = λ away. absurd (IsDistant-apart k i i away refl);
    around = λ y b walk. absurd (below_apart k i i b refl);
    next = λ e. absurd (omega arith);
  }

  pub far-link : (t : ℕ) → IsDistant k i t → IsNewLink k i L star x t (star (L (inverse k t) x))
  far-link t away = record {
    own = λ e. absurd (IsDistant-apart k i t away (sym e));
    along = λ also. refl;
    around = λ y b walk. absurd (far-below k i t away b);
    next = λ e. absurd (far-off k i t own away (after t e));
  }

  pub around-link : (t y : ℕ) → IsJustBelow k i t → IsAround k i t L x y → IsNewLink k i L star x t (star y)
  around-link t y b walk = record {
    own = λ e. absurd (below_apart k i t b e);
    along = λ away. absurd (far-below k i t away b);
    around = λ z also way. ap star (walk_one walk way);
    next = λ e. absurd (next-above k i t own (after t e) b);
  }

  pub next-link : (t : ℕ) → t ≡ suc i → IsNewLink k i L star x t 0
  next-link t is = record {
    own = λ e. absurd (omega arith);
    along = λ away. absurd (far-off k i t own away (after t is));
    around = λ y b walk. absurd (next-above k i t own (after t is) b);
    next = λ e. refl;
  }

  -- where the way around each boundary ends, each link of the new dart becomes one dart, or none
  module _ (rounds : (t : ℕ) → (y : ℕ) × IsAround k i t L x y) where
    pub link-one : (t y z : ℕ) → IsNewLink k i L star x t y → IsNewLink k i L star x t z → y ≡ z
    link-one t y z a b = cases (link_cases k i t own)
      where
        cases : IsBeside k i t → y ≡ z
        cases (same e) = a.own e ∙ sym (b.own e)
        cases (next e) = a.next e ∙ sym (b.next e)
        cases (below c) = let round = rounds t in a.around round.0 c round.1 ∙ sym (b.around round.0 c round.1)
        cases (far c) = a.along c ∙ sym (b.along c)

  -- a link above the dimension stays free
  pub link-high : (n t z : ℕ) → HasDimension n L → star 0 ≡ 0 → 2 ≤ n → i ≤ n → n < t → IsNewLink k i L star x t z → z ≡ 0
  link-high n t z above nothing dim low high link = cases (link_cases k i t own)
    where
      cases : IsBeside k i t → z ≡ 0
      cases (same e) = absurd (omega arith)
      cases (next e) = link.next e
      cases (below c) = absurd (let less = below-less k i t own c in omega arith)
      cases (far c) = link.along c ∙ ap star (ap (λ j. L j x) (inverse_own k t (omega arith)) ∙ above t x high) ∙ nothing
