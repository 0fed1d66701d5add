-- Marks at the places of ascending darts.
use Rattle.std.proofs.Common.{◌≡◌, ◌≢◌, ◌⊎◌, ◌↔◌, inl, inr, ℕ, ◌<◌, ◌≤◌, List, true, false, length, get_or, set, slice_index, Contains, Result, Ok, Err, nat_cmp, sym, ◌∙◌, ap, subst, arith, get_or-set_other, get_or-set_same}
use Rattle.std.specs.Prelude.{MatchResult}
use Rattle.std.proofs.lemmas.List.Sorted.{searched}
use Rattle.std.specs.List.Sorted.{IsStrictlyIncreasing, IsBinarySearchResult}
use Rattle.transport.specs.Wanted.{Wanted, IsMarked}
use Rattle.transport.proofs.Lists.{rises, rises_at_most, place_of, held_at}

three_ways : (a b : ℕ) → (a ≡ b) ⊎ (a < b) ⊎ (b < a)
three_ways a b = grind arith

-- what a binary search for a number finds
pub search_finds : (xs : List ℕ) (x : ℕ) (r : Result ℕ ℕ) → IsStrictlyIncreasing xs → IsBinarySearchResult (λ y. nat_cmp y x) xs r
    → MatchResult r (λ i. (i < length xs) × (slice_index xs i ≡ x)) (λ _. Contains xs x → ⊥)
search_finds xs x r up is = found r (searched xs x r is (rises_at_most xs up))
  where
    found : (s : Result ℕ ℕ) → MatchResult s (λ i. (i < length xs) × (get_or xs i 0 ≡ x)) (λ i. (i ≤ length xs) × ((k : ℕ) → k < i → get_or xs k 0 < x) × ((k : ℕ) → i ≤ k → k < length xs → x < get_or xs k 0))
        → MatchResult s (λ i. (i < length xs) × (slice_index xs i ≡ x)) (λ _. Contains xs x → ⊥)
    found (Ok i) h = h
    found (Err i) h = λ has.
        let p = place_of xs x has in
        elim (case p.0 i) [
          | inl before ↦ let less = h.1 p.0 before in let is = p.2 in omega arith
          | inr after ↦ let more = h.2 p.0 after p.1 in let is = p.2 in omega arith
        ]
      where
        case : (a b : ℕ) → (a < b) ⊎ (b ≤ a)
        case a b = grind arith

-- ascending numbers at different places differ
differ : (xs : List ℕ) → IsStrictlyIncreasing xs → (i j : ℕ) → i < length xs → j < length xs → slice_index xs i ≡ slice_index xs j → i ≡ j
differ xs up i j hi hj same = elim (three_ways i j) [
  | inl e ↦ e
  | inr s ↦ elim s [ inl l ↦ absurd (let r = rises xs up i j l hj in omega arith) | inr l ↦ absurd (let r = rises xs up j i l hi in omega arith) ]
]

-- no place is marked for a dart that is not wanted
pub none_marked : (w : Wanted) (d : ℕ) → (Contains w.darts d → ⊥) → (p : ℕ) → p < length w.darts → IsMarked w p ↔ (IsMarked w p ⊎ (d ≡ slice_index w.darts p))
none_marked w d none p h = (λ m. inl m, λ s. elim s [ inl m ↦ m | inr is ↦ absurd (none (subst (Contains w.darts) (sym is) (held_at w.darts p h))) ])

-- the place of a wanted dart is marked
pub one_marked : (w : Wanted) (d at : ℕ) → IsStrictlyIncreasing w.darts → length w.marks ≡ length w.darts → at < length w.darts → slice_index w.darts at ≡ d
    → (p : ℕ) → p < length w.darts → IsMarked (record w { marks = set w.marks at true }) p ↔ (IsMarked w p ⊎ (d ≡ slice_index w.darts p))
one_marked w d at up even within is p h = go (three_ways p at)
  where
    long : at < length w.marks
    long = omega arith

    here : p ≡ at → get_or (set w.marks at true) p false ≡ true
    here e = ap (λ q. get_or (set w.marks at true) q false) e ∙ get_or-set_same w.marks at true false long

    apart : p ≢ at → IsMarked (record w { marks = set w.marks at true }) p ↔ (IsMarked w p ⊎ (d ≡ slice_index w.darts p))
    apart other = (
      λ m. inl (sym (get_or-set_other w.marks at p true false other) ∙ m),
      λ s. elim s [
        | inl m ↦ get_or-set_other w.marks at p true false other ∙ m
        | inr e ↦ absurd (other (sym (differ w.darts up at p within h (is ∙ e))))
      ],
    )

    go : (p ≡ at) ⊎ (p < at) ⊎ (at < p) → IsMarked (record w { marks = set w.marks at true }) p ↔ (IsMarked w p ⊎ (d ≡ slice_index w.darts p))
    go (inl e) = (λ _. inr (sym is ∙ ap (slice_index w.darts) (sym e)), λ _. here e)
    go (inr s) = apart (λ e. elim s [ inl l ↦ omega arith | inr l ↦ omega arith ])
