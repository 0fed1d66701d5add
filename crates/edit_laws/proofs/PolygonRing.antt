-- The circle of a polygon's darts, each named by its place among them.
use Rattle.std.proofs.Common.{◌≡◌, ◌≢◌, ℕ, zero, suc, ◌+◌, ◌-◌, ◌*◌, ◌/◌, ◌%◌, ◌<◌, ◌≤◌, cond, eqb, List, [], length, get_or, refl, ap, ap₂, ◌∙◌, arith, inl, inr}
use Rattle.std.specs.List.{flat_map, range_with_len}
use Rattle.std.proofs.lemmas.Bool.{cases_eq}
use Rattle.std.proofs.lemmas.Bool.Decides.{nat_tests}
use Rattle.map_defs.specs.Kind.{Kind, alpha, beta, inverse}
use Rattle.map_defs.specs.Polygon.{per_side, polygon_rows, side_rows, row_of, next_side, previous_side}
use Rattle.edit_laws.proofs.PolygonSides.{flat_map-singles, get_or-flat_map-singles, flat_map-pairs, get_or-flat_map-pairs}

-- Among so many darts, link i of the one at place m, for the links 0 and 1, leads to that at place E i m.
pub record IsRing (k : Kind) (count : ℕ) (E : ℕ → ℕ → ℕ) : Type 0 where
  pub within : (i m : ℕ) → i ≤ 1 → m < count → E i m < count
  pub back : (i m : ℕ) → i ≤ 1 → m < count → E (inverse k i) (E i m) ≡ m
  pub apart : (i m : ℕ) → inverse k i ≡ i → i ≤ 1 → m < count → E i m ≢ m

-- The rows from `first` on are those of a circle of darts.
pub record AreRing (k : Kind) (n first count : ℕ) (ys : List (List ℕ)) (E : ℕ → ℕ → ℕ) : Type 0 where
  pub long : length ys ≡ count
  pub at : (m : ℕ) → m < count → get_or ys m [] ≡ row_of n (first + E 0 m) (first + E 1 m)
  pub ring : IsRing k count E

pub ring : Kind → ℕ → ℕ → ℕ → ℕ
ring alpha sides zero m = cond (eqb (m % 2) 0) (m + 1) (m - 1)
ring alpha sides (suc i) m = cond (eqb (m % 2) 0) (2 * previous_side sides (m / 2) + 1) (2 * next_side sides (m / 2))
ring beta sides zero m = previous_side sides m
ring beta sides (suc i) m = next_side sides m

next-previous : (sides s : ℕ) → s < sides → next_side sides (previous_side sides s) ≡ s
next-previous sides zero h = grind (arith, nat_tests)
next-previous sides (suc s) h = grind (arith, nat_tests)

previous-next : (sides s : ℕ) → s < sides → previous_side sides (next_side sides s) ≡ s
previous-next sides s h = grind (arith, nat_tests)

next-within : (sides s : ℕ) → s < sides → next_side sides s < sides
next-within sides s h = grind (arith, nat_tests)

previous-within : (sides s : ℕ) → s < sides → previous_side sides s < sides
previous-within sides s h = grind (arith, nat_tests)

-- the first or the second dart of a side
data Half (m : ℕ) : Type 0 where
  start : (s : ℕ) → m ≡ 2 * s → Half m
  end : (s : ℕ) → m ≡ 2 * s + 1 → Half m

half : (m : ℕ) → Half m
half m = elim (cases_eq (m % 2) 0) [ inl even ↦ start (m / 2) (omega arith) | inr odd ↦ end (m / 2) (omega arith) ]

even-half : (s : ℕ) → (2 * s) / 2 ≡ s
even-half s = omega arith

odd-half : (s : ℕ) → (2 * s + 1) / 2 ≡ s
odd-half s = omega arith

zeroth-start : (sides s : ℕ) → ring alpha sides 0 (2 * s) ≡ 2 * s + 1
unfolding ring
zeroth-start sides s = grind (arith, nat_tests)

zeroth-end : (sides s : ℕ) → ring alpha sides 0 (2 * s + 1) ≡ 2 * s
unfolding ring
zeroth-end sides s = grind (arith, nat_tests)

first-start : (sides s : ℕ) → ring alpha sides 1 (2 * s) ≡ 2 * previous_side sides s + 1
unfolding ring
first-start sides s =
    let even : (2 * s) % 2 ≡ 0 = omega arith in
    rw (even, even-half s) refl

first-end : (sides s : ℕ) → ring alpha sides 1 (2 * s + 1) ≡ 2 * next_side sides s
unfolding ring
first-end sides s =
    let odd : (2 * s + 1) % 2 ≡ 1 = omega arith in
    rw (odd, odd-half s) refl

beta-zeroth : (sides m : ℕ) → ring beta sides 0 m ≡ previous_side sides m
unfolding ring
beta-zeroth sides m = refl

beta-first : (sides m : ℕ) → ring beta sides 1 m ≡ next_side sides m
unfolding ring
beta-first sides m = refl

alpha-within : (sides i m : ℕ) → i ≤ 1 → m < 2 * sides → Half m → ring alpha sides i m < 2 * sides
alpha-within sides zero m low h (start s is) = rw (is, zeroth-start sides s) (omega arith)
alpha-within sides zero m low h (end s is) = rw (is, zeroth-end sides s) (omega arith)
alpha-within sides (suc zero) m low h (start s is) = rw (is, first-start sides s) (omega (arith, previous-within sides s (omega arith)))
alpha-within sides (suc zero) m low h (end s is) = rw (is, first-end sides s) (omega (arith, next-within sides s (omega arith)))
alpha-within sides (suc (suc i)) m low h half = absurd (omega arith)

alpha-back : (sides i m : ℕ) → i ≤ 1 → m < 2 * sides → Half m → ring alpha sides i (ring alpha sides i m) ≡ m
alpha-back sides zero m low h (start s is) = rw (is, zeroth-start sides s, zeroth-end sides s) refl
alpha-back sides zero m low h (end s is) = rw (is, zeroth-end sides s, zeroth-start sides s) refl
alpha-back sides (suc zero) m low h (start s is) =
    rw (is, first-start sides s, first-end sides (previous_side sides s), next-previous sides s (omega arith)) refl
alpha-back sides (suc zero) m low h (end s is) =
    rw (is, first-end sides s, first-start sides (next_side sides s), previous-next sides s (omega arith)) refl
alpha-back sides (suc (suc i)) m low h half = absurd (omega arith)

alpha-apart : (sides i m : ℕ) → i ≤ 1 → m < 2 * sides → Half m → ring alpha sides i m ≢ m
alpha-apart sides zero m low h (start s is) = rw (is, zeroth-start sides s) (λ same. absurd (omega arith))
alpha-apart sides zero m low h (end s is) = rw (is, zeroth-end sides s) (λ same. absurd (omega arith))
alpha-apart sides (suc zero) m low h (start s is) = rw (is, first-start sides s) (λ same. absurd (omega arith))
alpha-apart sides (suc zero) m low h (end s is) = rw (is, first-end sides s) (λ same. absurd (omega arith))
alpha-apart sides (suc (suc i)) m low h half = absurd (omega arith)

ring-alpha : (sides : ℕ) → IsRing alpha (2 * sides) (ring alpha sides)
ring-alpha sides = record {
  within = λ i m low h. alpha-within sides i m low h (half m);
  back = λ i m low h. alpha-back sides i m low h (half m);
  apart = λ i m own low h. alpha-apart sides i m low h (half m);
}

beta-within : (sides i m : ℕ) → i ≤ 1 → m < sides → ring beta sides i m < sides
beta-within sides zero m low h = rw (beta-zeroth sides m) (previous-within sides m h)
beta-within sides (suc zero) m low h = rw (beta-first sides m) (next-within sides m h)
beta-within sides (suc (suc i)) m low h = absurd (omega arith)

beta-back : (sides i m : ℕ) → i ≤ 1 → m < sides → ring beta sides (inverse beta i) (ring beta sides i m) ≡ m
beta-back sides zero m low h = rw (beta-zeroth sides m, beta-first sides (previous_side sides m)) (next-previous sides m h)
beta-back sides (suc zero) m low h = rw (beta-first sides m, beta-zeroth sides (next_side sides m)) (previous-next sides m h)
beta-back sides (suc (suc i)) m low h = absurd (omega arith)

beta-apart : (sides i m : ℕ) → inverse beta i ≡ i → i ≤ 1 → ring beta sides i m ≢ m
beta-apart sides zero m own low same = omega arith
beta-apart sides (suc zero) m own low same = omega arith
beta-apart sides (suc (suc i)) m own low same = omega arith

ring-beta : (sides : ℕ) → IsRing beta sides (ring beta sides)
ring-beta sides = record {
  within = λ i m low h. beta-within sides i m low h;
  back = λ i m low h. beta-back sides i m low h;
  apart = λ i m own low h. beta-apart sides i m own low;
}

-- the rows of the two darts of a side in a generalized map, and of the one in a combinatorial map
abbrev starting : ℕ → ℕ → ℕ → ℕ → List ℕ
starting n first sides s = row_of n (first + 2 * s + 1) (first + 2 * previous_side sides s + 1)

abbrev ending : ℕ → ℕ → ℕ → ℕ → List ℕ
ending n first sides s = row_of n (first + 2 * s) (first + 2 * next_side sides s)

abbrev single : ℕ → ℕ → ℕ → ℕ → List ℕ
single n first sides s = row_of n (first + previous_side sides s) (first + next_side sides s)

alpha-at : (n first sides m : ℕ) → m < 2 * sides → Half m
    → get_or (polygon_rows alpha n first sides) m [] ≡ row_of n (first + ring alpha sides 0 m) (first + ring alpha sides 1 m)
alpha-at n first sides m h (start s is) =
    let read = get_or-flat_map-pairs (side_rows alpha n first sides) (starting n first sides) (ending n first sides) (λ s. refl) 0 sides s [] (omega arith) in
    let e : 0 + s ≡ s = omega arith in
    rw (is, zeroth-start sides s, first-start sides s)
    (read.0 ∙ ap (starting n first sides) e ∙ ap₂ (row_of n) (omega arith) (omega arith))
alpha-at n first sides m h (end s is) =
    let read = get_or-flat_map-pairs (side_rows alpha n first sides) (starting n first sides) (ending n first sides) (λ s. refl) 0 sides s [] (omega arith) in
    let e : 0 + s ≡ s = omega arith in
    rw (is, zeroth-end sides s, first-end sides s) (read.1 ∙ ap (ending n first sides) e)

beta-at : (n first sides m : ℕ) → m < sides
    → get_or (polygon_rows beta n first sides) m [] ≡ row_of n (first + ring beta sides 0 m) (first + ring beta sides 1 m)
beta-at n first sides m h =
    let read = get_or-flat_map-singles (side_rows beta n first sides) (single n first sides) (λ s. refl) 0 sides m [] h in
    let e : 0 + m ≡ m = omega arith in
    rw (beta-zeroth sides m, beta-first sides m) (read ∙ ap (single n first sides) e)

-- so many darts the first sides have
pub sides-length : (k : Kind) (n first sides m : ℕ) → length (flat_map (side_rows k n first sides) (range_with_len 0 m)) ≡ per_side k * m
sides-length alpha n first sides m = flat_map-pairs (side_rows alpha n first sides) (starting n first sides) (ending n first sides) (λ s. refl) 0 m
sides-length beta n first sides m =
    let one : m ≡ 1 * m = omega arith in
    flat_map-singles (side_rows beta n first sides) (single n first sides) (λ s. refl) 0 m ∙ one

pub polygon-ring : (k : Kind) (n first sides : ℕ) → AreRing k n first (per_side k * sides) (polygon_rows k n first sides) (ring k sides)
polygon-ring alpha n first sides = record {
  long = sides-length alpha n first sides sides;
  at = λ m h. alpha-at n first sides m h (half m);
  ring = ring-alpha sides;
}
polygon-ring beta n first sides =
    let one : 1 * sides ≡ sides = omega arith in
    rw one (record {
      long = flat_map-singles (side_rows beta n first sides) (single n first sides) (λ s. refl) 0 sides;
      at = λ m h. beta-at n first sides m h;
      ring = ring-beta sides;
    })
