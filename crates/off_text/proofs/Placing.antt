-- What a search among ascending places finds.
use Rattle.std.proofs.Common.{◌≡◌, ◌≢◌, ℕ, zero, suc, ◌<◌, ◌≤◌, ◌⊎◌, inl, inr, List, [], ◌∷◌, length, map, get_or, Some, None, Ok, Err, refl, sym, ap, arith}
use Rattle.std.specs.List.Sorted.{IsBinarySearchResult, IsNonDecreasingBy, IsStrictlyIncreasing}
use Rattle.std.specs.Ordering.{nat_cmp, ordering_index}
use Rattle.std.proofs.lemmas.Bool.{cases_lt}
use Rattle.std.proofs.lemmas.Bool.Decides.{nat_tests}
use Rattle.std.proofs.lemmas.Cmp.{ranked}
use Rattle.std.proofs.lemmas.List.{get_or-map, length-map}
use Rattle.std.proofs.lemmas.List.Kept.{AllPairs-from_increasing}
use Rattle.std.proofs.lemmas.List.Sorted.{IsNonDecreasingBy-from_default}
use Rattle.map_defs.specs.Values.{Place}
use Rattle.map_defs.specs.Carry.{known}
use Rattle.off_text.specs.MapViews.{placed}

-- where the first place at a dart is
placed-at : (places : List Place) (d i : ℕ) (e : Place) → i < length places → (get_or places i e).dart ≡ d → ((j : ℕ) → j < i → (get_or places j e).dart ≢ d) → placed places d ≡ Some (get_or places i e).value
placed-at [] d i e low is before = absurd (omega arith)
placed-at (p ∷ places) d zero e low is before = grind (arith, nat_tests, is)
placed-at (p ∷ places) d (suc i) e low is before = grind (arith, nat_tests, before 0 (omega arith), placed-at places d i e (omega arith) is (λ j below. before (suc j) (omega arith)))

-- where no place is at the dart
placed-none : (places : List Place) (d : ℕ) (e : Place) → ((j : ℕ) → j < length places → (get_or places j e).dart ≢ d) → placed places d ≡ None
placed-none [] d e never = refl
placed-none (p ∷ places) d e never = grind (arith, nat_tests, never 0 (omega arith), placed-none places d e (λ j below. never (suc j) (omega arith)))

module _ (places : List Place) (up : IsStrictlyIncreasing (map (λ (place : Place). place.dart) places)) (d : ℕ) where
  rises : (i j : ℕ) (e : Place) → i < j → j < length places → (get_or places i e).dart < (get_or places j e).dart
  rises i j e below low =
      let pairs = AllPairs-from_increasing (map (λ (place : Place). place.dart) places) up i j 0 below (omega (arith, length-map places (λ (place : Place). place.dart))) in
      omega (arith, pairs, get_or-map (λ (place : Place). place.dart) places i e 0 (omega arith), get_or-map (λ (place : Place). place.dart) places j e 0 low)

  compared : (e : Place) → IsNonDecreasingBy (λ (place : Place). ordering_index (nat_cmp place.dart d)) places
  compared e = IsNonDecreasingBy-from_default (λ (place : Place). ordering_index (nat_cmp place.dart d)) places e (λ i j le low.
      let rise : (get_or places i e).dart ≤ (get_or places j e).dart = grind (arith, rises i j e, λ (same : i ≡ j). ap (λ n. (get_or places n e).dart) same) in
      grind (arith, nat_tests))

  pub found : (at : ℕ) (e : Place) → at < length places → IsBinarySearchResult (λ (place : Place). nat_cmp place.dart d) places (Ok at) → placed places d ≡ Some (get_or places at e).value
  found at e low equal =
      let is : (get_or places at e).dart ≡ d = ranked _ d _ (sym (equal e)) in
      placed-at places d at e low is (λ j below same. omega (arith, rises j at e below low, is, same))

  pub absent : (at : ℕ) → IsBinarySearchResult (λ (place : Place). nat_cmp place.dart d) places (Err at) → placed places d ≡ None
  absent at parted = placed-none places d e (λ j low same. go j low same (cases_lt j at))
    where
      e : Place
      e = record { dart = 0; value = known None }

      go : (j : ℕ) → j < length places → (get_or places j e).dart ≡ d → (j < at) ⊎ (at ≤ j) → ⊥
      go j low same (inl below) =
          let less : (get_or places j e).dart < d = ranked _ d _ (sym ((parted (compared e)).0 j e (omega arith) below)) in omega (arith, less, same)
      go j low same (inr above) =
          let more : d < (get_or places j e).dart = ranked _ d _ (sym ((parted (compared e)).1 j e above low)) in omega (arith, more, same)
