-- The darts of a boundary, as they are found one after another, and the table of their new darts.
use Rattle.std.specs.Prelude.{ℕ, ◌≡◌, ◌+◌, ◌<◌, ◌↔◌, ◌==◌, if◌then◌else◌, List, [], ◌∷◌, length, slice_index, Contains}
use Rattle.std.specs.List.Sorted.{IsStrictlyIncreasing}
use Rattle.map_defs.specs.Rows.{Rows, links_of, made, IsLive}
use Rattle.map_defs.specs.Closing.{IsOpen}
use Rattle.cell_edit.specs.Stars.{number_from}

-- These are the live darts below d that are free at link i, ascending.
pub record ListsOpen (rows : Rows) (i d : ℕ) (darts : List ℕ) : Type 0 where
  pub members : (x : ℕ) → Contains darts x ↔ ((x < d) × IsOpen (IsLive rows) i (links_of rows) x)
  pub ascending : IsStrictlyIncreasing darts

-- the places of those of these numbers that are not 0, where places count from d
abbrev pub keys_from : ℕ → List ℕ → List ℕ
keys_from d [] = []
keys_from d (y ∷ ys) = if y == 0 then keys_from (d + 1) ys else d ∷ keys_from (d + 1) ys

-- These numbers tell the new dart of each dart below d, where one that is free at link i gets one, and 0 of one that gets none.
pub record IsToldBelow (rows : Rows) (i d next : ℕ) (numbers : List ℕ) : Type 0 where
  pub long : length numbers ≡ d
  pub lists : ListsOpen rows i d (keys_from 0 numbers)
  pub count : next ≡ made rows + 1 + length (keys_from 0 numbers)
  pub told : (x : ℕ) → slice_index numbers x ≡ number_from (made rows + 1) (keys_from 0 numbers) x

-- this row tells the links of x
abbrev pub IsRowOf : Rows → ℕ → List ℕ → Type 0
IsRowOf rows x row = (t : ℕ) → slice_index row t ≡ links_of rows t x
