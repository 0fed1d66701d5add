-- The links of a dart as changes. Source: this project's.
use Rattle.std.specs.Prelude.{ℕ, ◌+◌, ◌==◌, if◌then◌else◌, List, [], ◌∷◌, slice_set}
use Rattle.map_defs.specs.Edits.{Change}

-- the changes by which the links of dart d from i on, which are free, become these numbers; none for a number that is 0
abbrev pub row_changes : ℕ → ℕ → List ℕ → List Change
row_changes d i [] = []
row_changes d i (y ∷ ys) =
    if y == 0 then row_changes d (i + 1) ys else (record { dart = d; link = i; old = 0; new = y } ∷ row_changes d (i + 1) ys)

-- a row with the number y at link i, unless that is 0
abbrev pub with_link : ℕ → ℕ → List ℕ → List ℕ
with_link i y row = if y == 0 then row else slice_set row i y

-- a row with these numbers in its places from i on, but for those that are 0
abbrev pub with_links : ℕ → List ℕ → List ℕ → List ℕ
with_links i [] row = row
with_links i (y ∷ ys) row = with_links (i + 1) ys (with_link i y row)
