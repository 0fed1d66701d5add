-- Rows by their places: the dart at a place, and the place of a dart.
use Rattle.std.proofs.Common.{◌≡◌, ℕ, zero, suc, ◌<◌, ◌==◌, Bool, true, false, cond, List, [], ◌∷◌, length, get_or, Some, IsSome, refl, subst, arith}
use Rattle.std.specs.Prelude.{All, slice_index}
use Rattle.std.proofs.lemmas.Bool.{false≢true, eqb-true}
use Rattle.std.proofs.lemmas.Bool.Decides.{nat_tests}
use Rattle.map_defs.specs.Kind.{Kind}
use Rattle.machine_defs.specs.Listing.{ListRow}
use Rattle.machine_defs.specs.ListingFaults.{row_in, HasRow, IsLawful}
use Rattle.row_laws.specs.Rows.{darts_of}

pub dart-at : (rows : List ListRow) (p : ℕ) → p < length rows → (row : ListRow) × (get_or rows p row ≡ row) × (slice_index (darts_of rows) p ≡ row.dart)
dart-at [] p h = absurd (omega arith)
dart-at (row ∷ rows) zero h = (row, refl, refl)
dart-at (row ∷ rows) (suc p) h = dart-at rows p (omega arith)

-- the laws at the darts of all rows, told by their places
pub lawful-at : (k : Kind) (rows all : List ListRow) → All (λ (row : ListRow). IsLawful k all row.dart) rows → (p : ℕ) → p < length rows → IsLawful k all (slice_index (darts_of rows) p)
lawful-at k rows all lawful p h =
    let at = dart-at rows p h in
    let here : IsLawful k all at.0.dart = subst (λ (row : ListRow). IsLawful k all row.dart) at.1 (lawful p at.0 h) in
    rw at.2 here

-- a dart with a row stands at a place
pub place-of : (rows : List ListRow) (d : ℕ) → HasRow rows d → (p : ℕ) × (p < length rows) × (slice_index (darts_of rows) p ≡ d)
place-of [] d has = absurd (false≢true has)
place-of (row ∷ rows) d has = at (row.dart == d) refl has (place-of rows d)
  where
    at : (b : Bool) → row.dart == d ≡ b → IsSome (cond b (Some row.links) (row_in rows d)) → (HasRow rows d → (p : ℕ) × (p < length rows) × (slice_index (darts_of rows) p ≡ d))
        → (p : ℕ) × (p < suc (length rows)) × (slice_index (darts_of (row ∷ rows)) p ≡ d)
    at true e has later = (0, omega arith, eqb-true row.dart d e)
    at false e has later = let place = later has in (suc place.0, omega (arith, place.1), place.2)

-- the dart at a place has a row
pub has-row : (rows : List ListRow) (p : ℕ) → p < length rows → HasRow rows (slice_index (darts_of rows) p)
has-row [] p h = absurd (omega arith)
has-row (row ∷ rows) zero h = let same : row.dart == row.dart ≡ true = grind (arith, nat_tests) in rw same refl
has-row (row ∷ rows) (suc p) h = at (row.dart == slice_index (darts_of rows) p) (has-row rows p (omega arith))
  where
    at : (b : Bool) → HasRow rows (slice_index (darts_of rows) p) → IsSome (cond b (Some row.links) (row_in rows (slice_index (darts_of rows) p)))
    at true later = refl
    at false later = later
