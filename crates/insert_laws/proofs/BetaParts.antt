-- The laws of a combinatorial map from its parts: link 1 with its inverse, the higher links, and their squares.
use Rattle.std.proofs.Common.{ℕ, zero, suc, ◌≡◌, ◌≢◌, ◌+◌, ◌≤◌, ◌↔◌, refl, sym, ap, inl, inr, ◌∙◌, arith}
use Rattle.map_defs.specs.Kind.{beta, inverse, place, IsDistant}
use Rattle.map_defs.specs.Links.{Links, IsTurned}
use Rattle.map_defs.specs.Laws.{Laws}
use Rattle.link_laws.proofs.Basics.{distant_zero, distant_one, distant_high, inverse_own}
use Rattle.link_laws.proofs.LawFacts.{alike}

pub record HasParts (N : Links) : Type 0 where
  pub nil : (t : ℕ) → 1 ≤ t → N t 0 ≡ 0
  pub turned : IsTurned N
  pub back : (j x : ℕ) → 2 ≤ j → N j x ≢ 0 → N j (N j x) ≡ x
  pub apart : (j x : ℕ) → 2 ≤ j → x ≢ 0 → N j x ≢ x
  -- links 0 and 1 with a higher link, and two higher links
  pub onward : (j x : ℕ) → 3 ≤ j → N 0 (N j x) ≡ N j (N 1 x)
  pub backward : (j x : ℕ) → 3 ≤ j → N 1 (N j x) ≡ N j (N 0 x)
  pub high : (i j x : ℕ) → 2 ≤ i → i + 2 ≤ j → N i (N j x) ≡ N j (N i x)

module _ (N : Links) (r : HasParts N) where
  parts_nil : (t : ℕ) → N t 0 ≡ 0
  parts_nil zero = r.turned.nothing
  parts_nil (suc t) = r.nil (suc t) (omega arith)

  parts_back : (t x : ℕ) → N t x ≢ 0 → N (inverse beta t) (N t x) ≡ x
  parts_back zero x h = (r.turned.back (N 0 x) x h (λ z. h (ap (N 0) z ∙ parts_nil 0))).1 refl
  parts_back (suc zero) x h = (r.turned.back x (N 1 x) (λ z. h (ap (N 1) z ∙ parts_nil 1)) h).0 refl
  parts_back (suc (suc t)) x h = r.back (suc (suc t)) x (omega arith) h

  parts_apart : (t x : ℕ) → inverse beta t ≡ t → x ≢ 0 → N t x ≢ x
  parts_apart zero x own hx e = omega arith
  parts_apart (suc zero) x own hx e = omega arith
  parts_apart (suc (suc t)) x own hx e = r.apart (suc (suc t)) x (omega arith) hx e

  -- for links in their order, link 0 counting as link 1
  parts_ordered : (i j x : ℕ) → place beta i + 2 ≤ place beta j → N (inverse beta i) (N j x) ≡ N (inverse beta j) (N i x)
  parts_ordered zero zero x l = absurd (omega arith)
  parts_ordered zero (suc zero) x l = absurd (omega arith)
  parts_ordered zero (suc (suc j)) x l = r.backward (suc (suc j)) x (omega arith)
  parts_ordered (suc zero) zero x l = absurd (omega arith)
  parts_ordered (suc zero) (suc zero) x l = absurd (omega arith)
  parts_ordered (suc zero) (suc (suc j)) x l = r.onward (suc (suc j)) x (omega arith)
  parts_ordered (suc (suc i)) zero x l = absurd (omega arith)
  parts_ordered (suc (suc i)) (suc zero) x l = absurd (omega arith)
  parts_ordered (suc (suc i)) (suc (suc j)) x l = r.high (suc (suc i)) (suc (suc j)) x (omega arith) (omega arith)

  parts_square : (i j x : ℕ) → IsDistant beta i j → N (inverse beta i) (N j x) ≡ N (inverse beta j) (N i x)
  unfolding IsDistant
  parts_square i j x (inl l) = parts_ordered i j x l
  parts_square i j x (inr l) = sym (parts_ordered j i x l)

  pub laws_from_parts : Laws beta N
  laws_from_parts = record { nil = parts_nil; back = parts_back; apart = parts_apart; square = parts_square }

-- what the laws of a combinatorial map say in this form
module _ (L : Links) (w : Laws beta L) where
  pub onward_of : (j x : ℕ) → 3 ≤ j → L 0 (L j x) ≡ L j (L 1 x)
  onward_of zero x l = absurd (omega arith)
  onward_of (suc zero) x l = absurd (omega arith)
  onward_of (suc (suc j)) x l = w.square 1 (suc (suc j)) x (distant_one (suc (suc j)) l)

  pub backward_of : (j x : ℕ) → 3 ≤ j → L 1 (L j x) ≡ L j (L 0 x)
  backward_of zero x l = absurd (omega arith)
  backward_of (suc zero) x l = absurd (omega arith)
  backward_of (suc (suc j)) x l = w.square 0 (suc (suc j)) x (distant_zero (suc (suc j)) l)

  pub high_of : (i j x : ℕ) → 2 ≤ i → i + 2 ≤ j → L i (L j x) ≡ L j (L i x)
  high_of zero j x l h = absurd (omega arith)
  high_of (suc zero) j x l h = absurd (omega arith)
  high_of (suc (suc i)) zero x l h = absurd (omega arith)
  high_of (suc (suc i)) (suc zero) x l h = absurd (omega arith)
  high_of (suc (suc i)) (suc (suc j)) x l h = w.square (suc (suc i)) (suc (suc j)) x (distant_high beta (suc (suc i)) (suc (suc j)) (omega arith) h)

  pub back_of : (j x : ℕ) → 2 ≤ j → L j x ≢ 0 → L j (L j x) ≡ x
  back_of zero x l h = absurd (omega arith)
  back_of (suc zero) x l h = absurd (omega arith)
  back_of (suc (suc j)) x l h = w.back (suc (suc j)) x h

  pub apart_of : (j x : ℕ) → 2 ≤ j → x ≢ 0 → L j x ≢ x
  apart_of j x l h = w.apart j x (inverse_own beta j l) h

  -- free alike at the two ends
  pub alike_onward : (j x : ℕ) → 3 ≤ j → L 1 x ≢ 0 → (L j x ≡ 0) ↔ (L j (L 1 x) ≡ 0)
  alike_onward j x l h = rw (inverse_own beta j (omega arith)) at (alike beta L w 1 j x (distant_one j l) h)

  pub alike_backward : (j x : ℕ) → 3 ≤ j → L 0 x ≢ 0 → (L j x ≡ 0) ↔ (L j (L 0 x) ≡ 0)
  alike_backward j x l h = rw (inverse_own beta j (omega arith)) at (alike beta L w 0 j x (distant_zero j l) h)
