-- A set of darts beside the list of the same darts in the order in which they were found.
use Rattle.std.proofs.Common.{◌≡◌, ℕ, ◌↔◌, List, [], ◌∷◌, ◌++◌, Bool, true, false, nat_eq, Contains, Result, Ok, Err, OnOk, OnErr, refl, sym, subst, arith, IsPermutation, nat_cmp}
use Rattle.std.proofs.lemmas.Bool.Decides.{nat_tests}
use Rattle.std.proofs.lemmas.List.Sorted.{IsNonDecreasingBy-from_sort, Contains-permutation, IsPermutation-sym}
use Rattle.std.proofs.lemmas.Map.Keys.{IsDistinct-push, IsDistinct-IsPermutation, IsStrictlyIncreasing-from_distinct}
use Rattle.std.proofs.lemmas.Map.Views.{Contains-from_any, exact_unsigned_eq}
use Rattle.std.specs.Cmp.{nat_eq_equiv}
use Rattle.std.specs.List.{IsDistinct, list_any}
use Rattle.std.specs.List.Sorted.{IsSorted, IsStrictlyIncreasing}
use Rattle.cell_walk.specs.Visits.{ListsOnce}

pub listed-none : (Told : List ℕ → Type 0) (darts : List ℕ) → Told [] → darts ≡ [] → ListsOnce Told darts
unfolding IsDistinct
listed-none Told darts told empty = record {
  apart = subst (IsDistinct nat_eq) (sym empty) (search arith);
  told = subst Told (sym empty) told;
}

-- what tells the darts has changed, and not the list
pub listed-same : (Told New : List ℕ → Type 0) (darts new : List ℕ) → new ≡ darts → New new → ListsOnce Told darts → ListsOnce New new
listed-same Told New darts new same told lists = record {
  apart = subst (IsDistinct nat_eq) (sym same) lists.apart;
  told = told;
}

-- a dart that is not in the list is put behind it
pub listed-more : (Told New : List ℕ → Type 0) (darts new : List ℕ) (d : ℕ) → (Contains darts d → ⊥) → new ≡ darts ++ d ∷ [] → New new → ListsOnce Told darts → ListsOnce New new
listed-more Told New darts new d fresh grown told lists = record {
  apart = subst (IsDistinct nat_eq) (sym grown) (IsDistinct-push nat_eq_equiv darts d lists.apart (missing (list_any (nat_eq d) darts) refl));
  told = told;
}
  where
    missing : (r : Bool) → list_any (nat_eq d) darts ≡ r → list_any (nat_eq d) darts ≡ false
    missing false is = is
    missing true is = absurd (fresh (Contains-from_any exact_unsigned_eq d darts is))

-- where the dart is put, and where it is not
pub put-once : (Told New : List ℕ → Type 0) (darts new : List ℕ) (d : ℕ) {E : Type 0} (result : Result (Unit {0}) E) → (Contains darts d → ⊥)
    → OnOk result (new ≡ darts ++ d ∷ []) → OnErr result (new ≡ darts) → New new → ListsOnce Told darts → ListsOnce New new
put-once Told New darts new d (Ok done) fresh grown same told lists = listed-more Told New darts new d fresh grown told lists
put-once Told New darts new d (Err fault) fresh grown same told lists = listed-same Told New darts new same told lists

-- different darts, moved
pub distinct-moved : (darts moved : List ℕ) → IsPermutation darts moved → IsDistinct nat_eq darts → IsDistinct nat_eq moved
distinct-moved darts moved is apart = IsDistinct-IsPermutation nat_eq (λ x y. grind (arith, nat_tests)) darts moved is apart

-- different darts, sorted
pub ascending-distinct : (darts sorted : List ℕ) → IsDistinct nat_eq darts → IsPermutation darts sorted → IsSorted nat_cmp sorted → IsStrictlyIncreasing sorted
ascending-distinct darts sorted apart moved ordered =
    IsStrictlyIncreasing-from_distinct sorted (IsNonDecreasingBy-from_sort (λ x. x) sorted ordered) (distinct-moved darts sorted moved apart)

-- the list, sorted
pub listed-ascending : (Told : List ℕ → Type 0) (darts sorted : List ℕ) → ListsOnce Told darts → IsPermutation darts sorted → IsSorted nat_cmp sorted → IsStrictlyIncreasing sorted
listed-ascending Told darts sorted lists moved ordered = ascending-distinct darts sorted lists.apart moved ordered

pub sorted-same : (darts sorted : List ℕ) → IsPermutation darts sorted → (d : ℕ) → Contains sorted d ↔ Contains darts d
sorted-same darts sorted moved d =
    (Contains-permutation sorted darts d (IsPermutation-sym darts sorted moved), Contains-permutation darts sorted d moved)
