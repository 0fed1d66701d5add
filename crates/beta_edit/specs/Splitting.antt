-- The entries that a vertex on an edge of a combinatorial map writes.
use Rattle.std.specs.Prelude.{ℕ, zero, suc, ◌≡◌, ◌≢◌, ◌<◌, ◌≤◌, ◌⊎◌, List, Contains}
use Rattle.map_defs.specs.Links.{Links}
use Rattle.map_defs.specs.Rows.{Rows, links_of}
use Rattle.cell_edit.specs.Stars.{Stars}
use Rattle.beta_edit.specs.Growing.{CanGrow}
use Rattle.beta_edit.specs.Entries.{IsOneEntry, IsNewEntry}

-- the links of the new dart of x: it leads back to x, and else where x led
abbrev pub split_link : Links → ℕ → ℕ → ℕ
split_link L x zero = x
split_link L x (suc t) = L (suc t) x

-- link 1 of x leads to its new dart s, and back to this leads link 0 of the dart to which link 1 of x led
abbrev pub IsBehindEntry : Links → ℕ → ℕ → ℕ → ℕ → ℕ → Type 0
IsBehindEntry L x s d t y = IsOneEntry x 1 s d t y ⊎ ((L 1 x ≢ 0) × IsOneEntry (L 1 x) 0 s d t y)

-- the links of x from 2 to those below m lead to the new darts of those to which they led
abbrev pub IsSideEntry : Links → (ℕ → ℕ) → ℕ → ℕ → ℕ → ℕ → ℕ → Type 0
IsSideEntry L star m x d t y = (2 ≤ t) × (t < m) × (L t x ≢ 0) × (d ≡ x) × (y ≡ star (L t x))

-- both, of one dart of the edge
abbrev pub IsOldSplitEntry : Links → (ℕ → ℕ) → ℕ → ℕ → ℕ → ℕ → ℕ → Type 0
IsOldSplitEntry L star m x d t y = IsBehindEntry L x (star x) d t y ⊎ IsSideEntry L star m x d t y

-- those of its new dart
abbrev pub IsNewSplitEntry : Links → (ℕ → ℕ) → ℕ → ℕ → ℕ → ℕ → Type 0
IsNewSplitEntry L star x d t y = IsNewEntry (split_link L x) (star x) d t y

-- and both, of all these darts
abbrev pub AreSplitEntries : Links → (ℕ → ℕ) → ℕ → List ℕ → ℕ → ℕ → ℕ → Type 0
AreSplitEntries L star m keys d t y = (x : ℕ) × Contains keys x × (IsOldSplitEntry L star m x d t y ⊎ IsNewSplitEntry L star x d t y)

-- What the changes of a vertex ask of the darts of the edge.
pub record IsWholeEdge (rows : Rows) (stars : Stars) : Type 0 where
  pub grow : CanGrow rows stars
  -- the edge has its darts on all sides
  pub sides : (x j : ℕ) → Contains stars.keys x → 2 ≤ j → links_of rows j x ≢ 0 → Contains stars.keys (links_of rows j x)
