-- The rows of a map: the plain data that a listing shows. Source: this project's.
use Rattle.std.specs.Prelude.{ℕ, ◌≡◌, ◌≢◌, ◌+◌, ◌-◌, ◌≤◌, List, length, Option, Some, None, slice_index, slice_index_or, IsSome, is_some, filter}
use Rattle.map_defs.specs.Kind.{Kind, inverse}
use Rattle.map_defs.specs.Links.{Links}

-- The row of dart d stands at place d, with its entries 0 to n, an entry being 0 if the link is free. Place 0, which is
-- no dart's, and the place of a dart that is not live hold none.
abbrev pub Rows : Type 0
Rows = List (Option (List ℕ))

-- the number of darts made so far, dead ones among them
abbrev pub made : Rows → ℕ
made rows = length rows - 1

abbrev pub row_at : Rows → ℕ → Option (List ℕ)
row_at rows d = slice_index_or rows d None

abbrev pub IsLive : Rows → ℕ → Type 0
IsLive rows d = IsSome (row_at rows d)

-- how many darts are live
abbrev pub live_count : Rows → ℕ
live_count rows = length (filter is_some rows)

-- an entry of a row; a dart that is not live has all entries 0
abbrev pub entry_of : Option (List ℕ) → ℕ → ℕ
entry_of None i = 0
entry_of (Some row) i = slice_index row i

-- the links that rows tell
abbrev pub links_of : Rows → Links
links_of rows i d = entry_of (row_at rows d) i

-- each live dart's row has the entries 0 to n
abbrev pub AreWide : ℕ → Rows → Type 0
AreWide n rows = (d : ℕ) (row : List ℕ) → row_at rows d ≡ Some row → length row ≡ n + 1

-- at most so many darts are ever made
abbrev pub made_max : ℕ
made_max = 4194304

-- What the rows of every map of kind k and dimension n keep.
pub record IsSound (k : Kind) (n : ℕ) (rows : Rows) : Type 0 where
  -- 0 is no dart
  pub nothing : row_at rows 0 ≡ None
  -- entries name live darts
  pub live : (i x : ℕ) → links_of rows i x ≢ 0 → IsLive rows (links_of rows i x)
  -- the inverse link leads back
  pub back : (i x : ℕ) → links_of rows i x ≢ 0 → links_of rows (inverse k i) (links_of rows i x) ≡ x
  -- a row has the entries 0 to n
  pub wide : AreWide n rows
  pub few : made rows ≤ made_max
