-- What the links of the new darts of a closing become, and the entries that are written.
use Rattle.std.specs.Prelude.{ℕ, suc, ◌≡◌, ◌≢◌, ◌+◌, ◌<◌, ◌≤◌, ◌⊎◌, ◌↔◌, List, [], Some, length, slice_index, slice_index_or, Contains}
use Rattle.std.specs.List.Sorted.{IsStrictlyIncreasing}
use Rattle.map_defs.specs.Kind.{Kind, inverse, IsDistant}
use Rattle.map_defs.specs.Links.{Links}
use Rattle.map_defs.specs.Laws.{Laws}
use Rattle.map_defs.specs.Insertion.{IsJustBelow}
use Rattle.map_defs.specs.Rows.{Rows, links_of, made, IsLive}
use Rattle.map_defs.specs.Closing.{IsOpen, IsAround}
use Rattle.link_rows.specs.BornRows.{NewRows}
use Rattle.cell_edit.specs.Stars.{Stars, star_of}
use Rattle.cell_edit.specs.Writing.{IsLinkEntry}

-- Link t of the new dart of x becomes z in a closing at link i, where 0 is for a link that stays free.
pub record IsNewLink (k : Kind) (i : ℕ) (L : Links) (star : ℕ → ℕ) (x t z : ℕ) : Type 0 where
  -- the link itself leads back
  pub own : t ≡ i → z ≡ x
  -- a distant link runs as it runs at the old darts, in a combinatorial map the other way round
  pub along : IsDistant k i t → z ≡ star (L (inverse k t) x)
  -- a link just below leads around the boundary
  pub around : (y : ℕ) → IsJustBelow k i t → IsAround k i t L x y → z ≡ star y
  pub next : t ≡ suc i → z ≡ 0

-- the row of the new dart of x, in a map of dimension n
abbrev pub IsNewRow : Kind → ℕ → ℕ → Links → (ℕ → ℕ) → ℕ → List ℕ → Type 0
IsNewRow k n i L star x row = (length row ≡ n + 1) × ((t : ℕ) → t ≤ n → IsNewLink k i L star x t (slice_index row t))

-- the entries of the links below m of the new dart of x
abbrev pub IsNewEntry : Kind → ℕ → Links → (ℕ → ℕ) → ℕ → ℕ → ℕ → ℕ → ℕ → Type 0
IsNewEntry k i L star m x d t y = (d ≡ star x) × (t < m) × IsNewLink k i L star x t y × (y ≢ 0)

-- the entries of one open dart x, whose link i becomes its new dart
abbrev pub IsOpenEntry : Kind → ℕ → Links → (ℕ → ℕ) → ℕ → ℕ → ℕ → ℕ → ℕ → Type 0
IsOpenEntry k i L star m x d t y = IsLinkEntry x i (star x) d t y ⊎ IsNewEntry k i L star m x d t y

-- the entries of all open darts
abbrev pub AreClosingEntries : Kind → ℕ → Links → (ℕ → ℕ) → ℕ → List ℕ → ℕ → ℕ → ℕ → Type 0
AreClosingEntries k i L star m keys d t y = (x : ℕ) × Contains keys x × IsOpenEntry k i L star m x d t y

-- These are the new darts of the darts that are open at link i, at which a map can be closed.
pub record CanClose (k : Kind) (rows : Rows) (i : ℕ) (stars : Stars) : Type 0 where
  pub made : stars.made ≡ made rows
  pub members : (x : ℕ) → Contains stars.keys x ↔ IsOpen (IsLive rows) i (links_of rows) x
  pub ascending : IsStrictlyIncreasing stars.keys
  pub own : inverse k i ≡ i
  pub laws : Laws k (links_of rows)

-- The rows of the new darts of the open darts below d are told, in a map of dimension n, and that the open darts lead back.
pub record IsClosedBelow (k : Kind) (n : ℕ) (rows : Rows) (i : ℕ) (stars : Stars) (d : ℕ) (born : NewRows) : Type 0 where
  pub first : born.first ≡ stars.made + 1
  pub width : born.width ≡ n + 1
  pub back : born.back ≡ Some i
  pub few : length born.rows ≤ length stars.keys
  pub below : (p : ℕ) → p < length born.rows → slice_index stars.keys p < d
  pub from : (p : ℕ) → length born.rows ≤ p → p < length stars.keys → d ≤ slice_index stars.keys p
  pub tells : (p : ℕ) → p < length born.rows
      → IsNewRow k n i (links_of rows) (star_of stars) (slice_index stars.keys p) (slice_index_or born.rows p [])
