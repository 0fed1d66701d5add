-- Darts numbered anew, by the places of their rows: 1 is the dart of the first row, and so on, and 0 is no dart.
use Rattle.std.specs.Prelude.{ℕ, ◌≡◌, ◌+◌, ◌<◌, ◌≤◌, ◌⊎◌, ◌↔◌, List, [], length, None, slice_index, slice_index_or, Contains, Vec, map}
use Rattle.std.specs.declared.alloc.Global.{Global}
use Rattle.std.specs.List.Sorted.{IsStrictlyIncreasing}
use Rattle.map_defs.specs.Kind.{Kind}
use Rattle.map_defs.specs.Rows.{Rows, row_at, links_of, IsLive, AreWide}
use Rattle.map_defs.specs.Cells.{NamesCell}
use Rattle.machine_defs.specs.Listing.{ListRow}
use Rattle.machine_defs.specs.ListingFaults.{HasRow, links_in}
use Rattle.row_laws.specs.Rows.{darts_of}

-- the new number of dart d is r; it is 0 if d has no row
abbrev pub IsRank : List ListRow → ℕ → ℕ → Type 0
IsRank rows d r =
    ((r ≡ 0) × (HasRow rows d → ⊥)) ⊎ ((p : ℕ) × (r ≡ p + 1) × (p < length rows) × (slice_index (darts_of rows) p ≡ d))

-- In these places stand the rows of the darts by their new numbers, with the links 0 to n below i at dart p + 1, and all
-- links of the darts before it.
pub record AreSetUpTo (n : ℕ) (rows : List ListRow) (p i : ℕ) (R : Rows) : Type 0 where
  pub long : length R ≡ length rows + 1
  pub nothing : row_at R 0 ≡ None
  pub live : (q : ℕ) → q < length rows → IsLive R (q + 1)
  pub wide : AreWide n R
  pub before : (j q : ℕ) → j ≤ n → q < p → IsRank rows (links_in rows j (slice_index (darts_of rows) q)) (links_of R j (q + 1))
  pub here : (j : ℕ) → j < i → IsRank rows (links_in rows j (slice_index (darts_of rows) p)) (links_of R j (p + 1))

-- all rows stand there, with all links
abbrev pub AreRanked : ℕ → List ListRow → Rows → Type 0
AreRanked n rows R = AreSetUpTo n rows (length rows) 0 R

abbrev pub items_of : Vec ℕ Global → List ℕ
items_of v = v.items

abbrev pub lists_of : List (Vec ℕ Global) → List (List ℕ)
lists_of lists = map items_of lists

-- For so many dimensions, from 0 on, the new numbers of the darts that are the least of their cells, ascending.
pub record AreLeast (k : Kind) (count : ℕ) (rows : List ListRow) (cells : List (List ℕ)) : Type 0 where
  pub long : length cells ≡ count
  pub ascending : (i : ℕ) → i < count → IsStrictlyIncreasing (slice_index_or cells i [])
  pub members : (i p : ℕ) → i < count → p < length rows → Contains (slice_index_or cells i []) (p + 1) ↔ NamesCell k (links_in rows) i (slice_index (darts_of rows) p)
