-- The counts of a map: how many darts, cells of each dimension and components it has. Source: CGAL's count_cells.
use Rattle.std.specs.Prelude.{ℕ, ◌≡◌, ◌≤◌, ◌+◌, ◌↔◌, List, length, slice_index, Contains}
use Rattle.std.specs.List.Sorted.{IsStrictlyIncreasing}
use Rattle.map_defs.specs.Kind.{Kind}
use Rattle.map_defs.specs.Links.{Links}
use Rattle.map_defs.specs.Cells.{NamesCell, NamesComponent}
use Rattle.map_defs.specs.Rows.{Rows, IsLive, links_of, live_count}

-- so many numbers have the property: they make an ascending list of that length
pub record HasCount (P : ℕ → Type 0) (count : ℕ) : Type 0 where
  pub numbers : List ℕ
  pub ascending : IsStrictlyIncreasing numbers
  pub members : (d : ℕ) → Contains numbers d ↔ P d
  pub counted : length numbers ≡ count

-- The counts of a map of dimension n in their order: its live darts, of which there are so many, its cells of dimensions 0
-- to n, and its components, each cell and component being counted by its least dart.
pub record AreCountsAmong (k : Kind) (n : ℕ) (Live : ℕ → Type 0) (live : ℕ) (L : Links) (counts : List ℕ) : Type 0 where
  pub long : length counts ≡ n + 3
  pub darts : slice_index counts 0 ≡ live
  pub cells : (i : ℕ) → i ≤ n → HasCount (λ d. Live d × NamesCell k L i d) (slice_index counts (i + 1))
  pub components : HasCount (λ d. Live d × NamesComponent L d) (slice_index counts (n + 2))

-- the counts of the map that rows tell
abbrev pub AreCounts : Kind → ℕ → Rows → List ℕ → Type 0
AreCounts k n rows counts = AreCountsAmong k n (IsLive rows) (live_count rows) (links_of rows) counts
