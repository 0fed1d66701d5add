-- The rows of a listing at the places of their darts, and the darts that have none.
use Rattle.std.specs.Prelude.{ℕ, ◌≡◌, ◌+◌, ◌<◌, ◌≤◌, ◌↔◌, List, length, Option, Some, None, Contains}
use Rattle.std.specs.List.Sorted.{IsStrictlyIncreasing}
use Rattle.map_defs.specs.Rows.{Rows, row_at}
use Rattle.map_defs.specs.Edits.{free_row}
use Rattle.machine_defs.specs.Listing.{ListRow}
use Rattle.machine_defs.specs.ListingFaults.{row_in, HasRow}

-- the entries of a row that may be there, or those of a free row
abbrev pub row_or_free : ℕ → Option (List ℕ) → List ℕ
row_or_free n None = free_row n
row_or_free n (Some row) = row

-- All darts that were made live: each has its row, or a free one where no row is its.
pub record AreSpread (n made : ℕ) (rows : List ListRow) (R : Rows) : Type 0 where
  pub long : length R ≡ made + 1
  pub nothing : row_at R 0 ≡ None
  pub each : (d : ℕ) → 0 < d → d ≤ made → row_at R d ≡ Some (row_or_free n (row_in rows d))

-- the darts below a number that have no row, ascending
pub record AreUnlisted (rows : List ListRow) (end : ℕ) (ds : List ℕ) : Type 0 where
  pub ascending : IsStrictlyIncreasing ds
  pub members : (d : ℕ) → Contains ds d ↔ ((0 < d) × (d < end) × (HasRow rows d → ⊥))
