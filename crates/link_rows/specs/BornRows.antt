-- The rows of new darts, and what they are as changes. Source: this project's.
use Rattle.std.specs.Prelude.{ℕ, zero, suc, ◌+◌, ◌==◌, if◌then◌else◌, List, [], ◌∷◌, ◌++◌, take, drop, slice_index, Option, Some, None}
use Rattle.map_defs.specs.Edits.{Change}
use Rattle.dart_arena.specs.RowChanges.{row_changes}

-- rows of new darts, each so wide, which are numbered on from the first; and the link, if there is one, at which the darts
-- that the rows name lead back
pub record NewRows : Type 0 where
  pub first : ℕ
  pub width : ℕ
  pub rows : List (List ℕ)
  pub back : Option ℕ

-- the changes by which darts that are numbered on from d, and have no links yet, get the links of these rows
abbrev pub rows_changes : ℕ → List (List ℕ) → List Change
rows_changes d [] = []
rows_changes d (row ∷ rows) = row_changes d 0 row ++ rows_changes (d + 1) rows

-- the changes by which the darts that the rows name at a link, where that link is free, lead back to the rows' darts, which
-- are numbered on from d; none for a number that is 0
abbrev pub back_changes : ℕ → ℕ → List (List ℕ) → List Change
back_changes link d [] = []
back_changes link d (row ∷ rows) =
    if slice_index row link == 0 then back_changes link (d + 1) rows else (record { dart = slice_index row link; link = link; old = 0; new = d } ∷ back_changes link (d + 1) rows)

-- these changes, if there is such a link
abbrev pub led_back : Option ℕ → ℕ → List (List ℕ) → List Change
led_back back d [] = []
led_back None d (row ∷ rows) = []
led_back (Some link) d (row ∷ rows) = back_changes link d (row ∷ rows)

-- so many rows, each so wide, of numbers that stand one row behind the other
abbrev pub rows_of : ℕ → ℕ → List ℕ → List (List ℕ)
rows_of width zero numbers = []
rows_of width (suc count) numbers = take width numbers ∷ rows_of width count (drop width numbers)
