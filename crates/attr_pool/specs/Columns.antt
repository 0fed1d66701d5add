-- The ids of one dimension.
use Rattle.std.specs.Prelude.{ℕ, ◌≡◌, ◌≤◌, ◌<◌, List, [], length, Option, Some, None, slice_index_or}
use Rattle.store_defs.specs.Labelings.{id_at}

-- how an id is written, 0 for none
abbrev pub number_of : Option ℕ → ℕ
number_of None = 0
number_of (Some id) = id

-- the ids stay, and so do the places
pub record KeepsColumn (old new : List ℕ) : Type 0 where
  pub ids : (d : ℕ) → id_at new d ≡ id_at old d
  pub longer : length old ≤ length new

-- there is a list for each dimension that a map can have; one with places has a place for each dart up to made, and no
-- id above
pub record AreLong (made : ℕ) (columns : List (List ℕ)) : Type 0 where
  pub all : length columns ≡ 9
  pub long : (i : ℕ) → 0 < length (slice_index_or columns i []) → made < length (slice_index_or columns i [])
  pub bare : (i d : ℕ) → made < d → id_at (slice_index_or columns i []) d ≡ None
