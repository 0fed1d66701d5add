-- The numbers of new darts.
use Rattle.std.proofs.Common.{ℕ, zero, suc, ◌≡◌, ◌≢◌, ◌+◌, ◌<◌, ◌≤◌, List, [], ◌∷◌, length, slice_index, get_or, Contains, refl, sym, ap, ◌∙◌, inl, inr, arith, eq-eqb, true, false, Result, Ok, Err, is_err, nat_cmp}
use Rattle.std.specs.Prelude.{All, MatchResult}
use Rattle.std.specs.List.{AllPairs}
use Rattle.std.specs.List.Sorted.{IsStrictlyIncreasing, IsBinarySearchResult}
use Rattle.std.proofs.lemmas.Bool.{cases_lt, ne_eqb, false≢true}
use Rattle.std.proofs.lemmas.List.{get_or_default}
use Rattle.std.proofs.lemmas.List.Kept.{AllPairs-from_increasing}
use Rattle.std.proofs.lemmas.List.Sorted.{searched}
use Rattle.std.proofs.lemmas.List.Elements.{Contains-get_or}
use Rattle.map_defs.specs.Births.{IsNumbered}
use Rattle.insert_laws.proofs.Paths.{held_is}
use Rattle.cell_edit.specs.Stars.{Stars, number_from, star_of}

-- ascending numbers rise
pub rises : (xs : List ℕ) → IsStrictlyIncreasing xs → (i j : ℕ) → i < j → j < length xs → slice_index xs i < slice_index xs j
rises xs up i j = AllPairs-from_increasing xs up i j 0

not_below : (xs : List ℕ) → IsStrictlyIncreasing xs → (i j : ℕ) → i ≤ j → j < length xs → slice_index xs i ≤ slice_index xs j
not_below xs up i j low within = elim (cases_lt i j) [
  | inl less ↦ let h = rises xs up i j less within in omega (arith, h)
  | inr same ↦ let e : i ≡ j = omega arith in let f : slice_index xs i ≡ slice_index xs j = ap (slice_index xs) e in omega arith
]

-- ascending numbers from 1 to made are at most so many
pub few_keys : (xs : List ℕ) (made : ℕ) → IsStrictlyIncreasing xs → All (λ (d : ℕ). (0 < d) × (d ≤ made)) xs → length xs ≤ made
few_keys xs made up within = last (length xs) refl
  where
    grows : (p : ℕ) → p < length xs → p < slice_index xs p
    grows zero h = (within 0 0 h).0
    grows (suc p) h =
        let before : p < slice_index xs p = grows p (omega arith) in
        let more = rises xs up p (suc p) (omega arith) h in
        omega (arith, more)

    last : (n : ℕ) → length xs ≡ n → n ≤ made
    last zero e = omega arith
    last (suc n) e =
        let low : n < slice_index xs n = grows n (omega arith) in
        let high = (within n 0 (omega arith)).1 in
        omega (arith, high)

-- ---- the number of a key
number-first : (next : ℕ) (key : ℕ) (keys : List ℕ) → number_from next (key ∷ keys) key ≡ next
unfolding number_from
number-first next key keys = rw (eq-eqb key key refl) refl

number-later : (next key : ℕ) (keys : List ℕ) (x : ℕ) → key ≢ x → number_from next (key ∷ keys) x ≡ number_from (next + 1) keys x
unfolding number_from
number-later next key keys x apart = rw (ne_eqb key x apart) refl

number-at : (next : ℕ) (xs : List ℕ) → AllPairs (λ x y. x < y) xs → (p : ℕ) → p < length xs → number_from next xs (slice_index xs p) ≡ next + p
number-at next [] up p h = absurd (omega arith)
number-at next (key ∷ keys) up zero h = number-first next key keys ∙ omega arith
number-at next (key ∷ keys) up (suc p) h =
    let apart : key < slice_index keys p = up 0 (suc p) 0 (omega arith) h in
    number-later next key keys (slice_index keys p) (omega arith)
    ∙ number-at (next + 1) keys (λ i j d low within. up (suc i) (suc j) d (omega arith) (omega arith)) p (omega arith)
    ∙ omega arith

number-nothing : (next : ℕ) (xs : List ℕ) → All (λ (x : ℕ). x ≢ 0) xs → number_from next xs 0 ≡ 0
unfolding number_from
number-nothing next [] darts = refl
number-nothing next (key ∷ keys) darts =
    number-later next key keys 0 (darts 0 0 (omega arith)) ∙ number-nothing (next + 1) keys (λ k d h. darts (suc k) d (omega arith))

-- what a binary search for a key finds
pub star-found : (stars : Stars) (x p : ℕ) → IsStrictlyIncreasing stars.keys → p < length stars.keys → slice_index stars.keys p ≡ x → star_of stars x ≡ stars.made + 1 + p
star-found stars x p up low is =
    ap (star_of stars) (sym is) ∙ number-at (stars.made + 1) stars.keys (AllPairs-from_increasing stars.keys up) p low

pub search-finds : (xs : List ℕ) (x : ℕ) (r : Result ℕ ℕ) → IsStrictlyIncreasing xs → IsBinarySearchResult (λ y. nat_cmp y x) xs r
    → MatchResult r (λ i. (i < length xs) × (slice_index xs i ≡ x)) (λ _. Contains xs x → ⊥)
search-finds xs x r up is = found r (searched xs x r is (not_below xs up))
  where
    found : (s : Result ℕ ℕ) → MatchResult s (λ i. (i < length xs) × (get_or xs i 0 ≡ x)) (λ i. (i ≤ length xs) × ((k : ℕ) → k < i → get_or xs k 0 < x) × ((k : ℕ) → i ≤ k → k < length xs → x < get_or xs k 0))
        → MatchResult s (λ i. (i < length xs) × (slice_index xs i ≡ x)) (λ _. Contains xs x → ⊥)
    found (Ok i) h = h
    found (Err i) h = λ has.
        let at : slice_index xs has.0 ≡ x = held_is xs x has in
        let low : has.0 < length xs = has.1 in elim (cases_lt has.0 i) [
          | inl before ↦ let less = h.1 has.0 before in omega (arith, less)
          | inr after ↦ let more = h.2 has.0 after low in omega (arith, more)
        ]

pub star-nothing : (stars : Stars) → ((x : ℕ) → Contains stars.keys x → x ≢ 0) → star_of stars 0 ≡ 0
star-nothing stars darts = number-nothing (stars.made + 1) stars.keys (λ p d h. darts (get_or stars.keys p d) (Contains-get_or stars.keys p d h))

-- the stars number the keys on from those made
pub stars-number : (stars : Stars) → IsStrictlyIncreasing stars.keys → All (λ (x : ℕ). x ≢ 0) stars.keys → IsNumbered (Contains stars.keys) stars.keys stars.made (star_of stars)
stars-number stars up darts = record {
  nothing = number-nothing (stars.made + 1) stars.keys darts;
  ascending = up;
  members = λ x. (λ h. h, λ h. h);
  numbers = λ p low. number-at (stars.made + 1) stars.keys (AllPairs-from_increasing stars.keys up) p low;
}

-- whether a binary search finds what it looks for
pub search-tells : (xs : List ℕ) (x : ℕ) (r : Result ℕ ℕ) → IsStrictlyIncreasing xs → IsBinarySearchResult (λ y. nat_cmp y x) xs r
    → (is_err r ≡ false → Contains xs x) × (is_err r ≡ true → Contains xs x → ⊥)
search-tells xs x r up is = tells r (search-finds xs x r up is)
  where
    tells : (s : Result ℕ ℕ) → MatchResult s (λ i. (i < length xs) × (slice_index xs i ≡ x)) (λ _. Contains xs x → ⊥) → (is_err s ≡ false → Contains xs x) × (is_err s ≡ true → Contains xs x → ⊥)
    tells (Ok i) h = ((λ _. (i, h.0, get_or_default xs i x 0 h.0 ∙ h.1)), λ e. absurd (false≢true e))
    tells (Err i) h = ((λ e. absurd (false≢true (sym e))), λ _. h)
