-- What is asked of darts that get new ones, and the edits that bear these.
use Rattle.std.specs.Prelude.{ℕ, ◌≡◌, List, [], ◌∷◌, ◌++◌, length, slice_index, All}
use Rattle.std.specs.List.Sorted.{IsStrictlyIncreasing}
use Rattle.map_defs.specs.Links.{Links}
use Rattle.map_defs.specs.Rows.{Rows, made, IsLive}
use Rattle.map_defs.specs.Edits.{Edit}
use Rattle.link_rows.specs.BornRows.{NewRows}
use Rattle.cell_edit.specs.Stars.{Stars}
use Rattle.cell_edit.specs.Writing.{WritesEntries}

-- The darts are live and ascending, and the new ones are numbered on from those that were made.
pub record CanGrow (rows : Rows) (stars : Stars) : Type 0 where
  pub made : stars.made ≡ made rows
  pub live : All (IsLive rows) stars.keys
  pub rising : IsStrictlyIncreasing stars.keys

-- The edit bears a dart for each of these, ends none, and writes these entries.
pub record Grows (L : Links) (stars : Stars) (Entry : ℕ → ℕ → ℕ → Type 0) (edit : Edit) : Type 0 where
  pub births : edit.births ≡ length stars.keys
  pub deaths : edit.deaths ≡ []
  pub writes : WritesEntries L Entry edit.changes

-- a row with these links was added behind
abbrev pub AddsRow : (ℕ → ℕ) → NewRows → NewRows → Type 0
AddsRow link old new =
    (row : List ℕ) × (new ≡ record old { rows = old.rows ++ row ∷ [] }) × ((t : ℕ) → slice_index row t ≡ link t)
