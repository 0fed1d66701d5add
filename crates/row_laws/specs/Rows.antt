-- Rows, as reading gives them, and the laws at one dart of them.
use Rattle.std.specs.Prelude.{ℕ, ◌≡◌, ◌≢◌, ◌+◌, ◌<◌, ◌≤◌, ◌↔◌, List, length, map, All}
use Rattle.std.specs.List.Sorted.{IsStrictlyIncreasing}
use Rattle.map_defs.specs.Kind.{Kind, inverse, IsDistant}
use Rattle.machine_defs.specs.Listing.{ListRow}
use Rattle.machine_defs.specs.ListingFaults.{HasRow, links_in}

abbrev pub dart_of : ListRow → ℕ
dart_of row = row.dart

-- the darts of the rows, in their order
abbrev pub darts_of : List ListRow → List ℕ
darts_of rows = map dart_of rows

-- they ascend
abbrev pub Ascend : List ListRow → Type 0
Ascend rows = IsStrictlyIncreasing (darts_of rows)

-- the row is a dart's, and has the entries 0 to n
abbrev pub IsRow : ℕ → ListRow → Type 0
IsRow n row = (0 < row.dart) × (length row.links ≡ n + 1)

-- the row is that of a dart that was made
abbrev pub IsMadeRow : ℕ → ListRow → Type 0
IsMadeRow made row = row.dart ≤ made

pub record AreRows (n : ℕ) (rows : List ListRow) : Type 0 where
  pub ascending : Ascend rows
  pub each : All (IsRow n) rows

-- link i of d leads to a live dart e, and back; and e is not d, if the link is its own inverse
abbrev pub LeadsBack : Kind → List ListRow → ℕ → ℕ → ℕ → Type 0
LeadsBack k rows i d e = HasRow rows e × (links_in rows (inverse k i) e ≡ d) × (inverse k i ≡ i → e ≢ d)

-- the ends d and e of link i are alike free at link j, and the square closes where they are not
abbrev pub IsClosedAt : Kind → List ListRow → ℕ → ℕ → ℕ → ℕ → Type 0
IsClosedAt k rows i d e j =
    ((links_in rows j d ≡ 0) ↔ (links_in rows j e ≡ 0)) × (links_in rows j d ≢ 0 → links_in rows (inverse k i) (links_in rows j d) ≡ links_in rows j e)

-- the same at each higher distant link
abbrev pub AreClosed : Kind → List ListRow → ℕ → ℕ → ℕ → Type 0
AreClosed k rows i d e = (j : ℕ) → IsDistant k i j → i < j → IsClosedAt k rows i d e j
