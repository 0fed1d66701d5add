-- The rows of darts, by a search among the darts.
use Rattle.std.proofs.Common.{◌≡◌, ◌≢◌, ℕ, zero, suc, ◌+◌, ◌<◌, ◌≤◌, ◌==◌, Bool, true, false, cond, List, [], ◌∷◌, length, Some, None, Err, get_or, refl, sym, ap, inl, inr, arith, nat_cmp}
use Rattle.std.specs.Prelude.{slice_index, All}
use Rattle.std.specs.List.Sorted.{IsStrictlyIncreasing, IsBinarySearchResult}
use Rattle.std.proofs.lemmas.Bool.{cases_lt, eqb-true}
use Rattle.std.proofs.lemmas.Bool.Decides.{nat_tests}
use Rattle.std.proofs.lemmas.List.Kept.{AllPairs-from_increasing}
use Rattle.std.proofs.lemmas.List.Sorted.{searched}
use Rattle.map_defs.specs.Rows.{entry_of}
use Rattle.machine_defs.specs.Listing.{ListRow}
use Rattle.machine_defs.specs.ListingFaults.{row_in, links_in}
use Rattle.row_laws.specs.Rows.{darts_of, Ascend, IsRow}
use Rattle.row_laws.proofs.RowsRead.{darts-long}

-- ascending numbers rise
pub rises : (xs : List ℕ) → IsStrictlyIncreasing xs → (i j : ℕ) → i < j → j < length xs → slice_index xs i < slice_index xs j
rises xs up i j = AllPairs-from_increasing xs up i j 0

pub not_below : (xs : List ℕ) → IsStrictlyIncreasing xs → (i j : ℕ) → i ≤ j → j < length xs → slice_index xs i ≤ slice_index xs j
not_below xs up i j low within = elim (cases_lt i j) [
  | inl less ↦ let h = rises xs up i j less within in omega (arith, h)
  | inr same ↦ let e : i ≡ j = omega arith in let f : slice_index xs i ≡ slice_index xs j = ap (slice_index xs) e in omega arith
]

-- where a search ends without a place, no row is the dart's
pub no-place : (rows : List ListRow) (ds : List ℕ) (d i : ℕ) → ds ≡ darts_of rows → Ascend rows → IsBinarySearchResult (λ y. nat_cmp y d) ds (Err i)
    → (k : ℕ) → k < length rows → slice_index (darts_of rows) k ≢ d
no-place rows ds d i is up h k low e =
    let here : IsBinarySearchResult (λ y. nat_cmp y d) (darts_of rows) (Err i) = rw is at h in
    let found = searched (darts_of rows) d (Err i) here (not_below (darts_of rows) up) in
    let long = darts-long rows in
    elim (cases_lt k i) [
      | inl before ↦ let less = found.1 k before in omega (arith, less)
      | inr after ↦ let more = found.2 k after (omega (arith, long)) in omega (arith, more)
    ]

tail-up : (d : ℕ) (ds : List ℕ) → IsStrictlyIncreasing (d ∷ ds) → IsStrictlyIncreasing ds
tail-up d ds up k h =
    let e : suc k + 1 ≡ suc (k + 1) = omega arith in
    let less : slice_index (d ∷ ds) (suc k) < slice_index (d ∷ ds) (suc k + 1) = up (suc k) (omega (arith, h)) in
    rw e at less

-- the row at a dart's place is the dart's
pub row-found : (rows : List ListRow) (d p : ℕ) (row : ListRow) → Ascend rows → p < length rows → slice_index (darts_of rows) p ≡ d → row ≡ get_or rows p row
    → row_in rows d ≡ Some row.links
row-found [] d p row up low is at = absurd (omega arith)
row-found (first ∷ rows) d zero row up low is at = let same : first.dart == d ≡ true = grind (arith, nat_tests) in rw same (ap (λ (r : ListRow). Some r.links) (sym at))
row-found (first ∷ rows) d (suc p) row up low is at =
    let long = darts-long rows in
    let less = rises (darts_of (first ∷ rows)) up 0 (suc p) (omega arith) (omega (arith, long)) in
    let other : first.dart == d ≡ false = grind (arith, nat_tests, less) in
    rw other (row-found rows d p row (tail-up first.dart (darts_of rows) up) (omega arith) is at)

-- where no row is the dart's, it has none
pub row-missing : (rows : List ListRow) (d : ℕ) → ((k : ℕ) → k < length rows → slice_index (darts_of rows) k ≢ d) → row_in rows d ≡ None
row-missing [] d none = refl
row-missing (first ∷ rows) d none = at (first.dart == d) refl (row-missing rows d (λ k h. none (suc k) (omega arith)))
  where
    at : (b : Bool) → first.dart == d ≡ b → row_in rows d ≡ None → cond b (Some first.links) (row_in rows d) ≡ None
    at true e later = absurd (none 0 (omega arith) (eqb-true first.dart d e))
    at false e later = later

past : (xs : List ℕ) (i : ℕ) → length xs ≤ i → slice_index xs i ≡ 0
past [] i h = refl
past (x ∷ xs) zero h = absurd (omega arith)
past (x ∷ xs) (suc i) h = past xs i (omega arith)

-- no row has an entry above n
pub link-above : (n : ℕ) (rows : List ListRow) (i d : ℕ) → All (IsRow n) rows → n < i → links_in rows i d ≡ 0
link-above n [] i d each high = refl
link-above n (first ∷ rows) i d each high = at (first.dart == d) (link-above n rows i d (λ k r h. each (suc k) r (omega arith)) high)
  where
    at : (b : Bool) → links_in rows i d ≡ 0 → entry_of (cond b (Some first.links) (row_in rows d)) i ≡ 0
    at true later = past first.links i (let long = (each 0 first (omega arith)).1 in omega (arith, long))
    at false later = later
