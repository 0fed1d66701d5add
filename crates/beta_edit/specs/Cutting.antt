-- The entries that an edge in a face of a combinatorial map writes.
use Rattle.std.specs.Prelude.{ℕ, zero, suc, ◌≡◌, ◌≢◌, ◌≤◌, ◌⊎◌, ◌↔◌, List, Contains}
use Rattle.map_defs.specs.Links.{Links}
use Rattle.map_defs.specs.Rows.{Rows, links_of}
use Rattle.sewing.specs.Triples.{Triple, Lists, IsAscending}
use Rattle.cell_edit.specs.Stars.{Stars}
use Rattle.cell_edit.specs.Writing.{IsCornerOf}
use Rattle.beta_edit.specs.Growing.{CanGrow}
use Rattle.beta_edit.specs.Entries.{IsOneEntry, IsNewEntry}

-- The links of the new dart of the corner x, where link 1 leads from z into the other corner: it leads on there, and back
-- where x led. Across the new edge it is joined with the new dart of the other corner, and along the links from 3 upwards
-- with those of the copies to which they lead from z.
abbrev pub cut_link : Links → (ℕ → ℕ) → ℕ → ℕ → ℕ → ℕ
cut_link L star x z zero = L 0 x
cut_link L star x z (suc zero) = L 1 z
cut_link L star x z (suc (suc zero)) = star (L 1 z)
cut_link L star x z (suc (suc (suc t))) = star (L (suc (suc (suc t))) z)

-- the way that led into the corner x leads to its new dart s, and back to this leads link 0 of the dart to which link 1 of z
-- leads
abbrev pub IsAroundEntry : Links → ℕ → ℕ → ℕ → ℕ → ℕ → ℕ → Type 0
IsAroundEntry L s x z d t y = IsOneEntry (L 0 x) 1 s d t y ⊎ IsOneEntry (L 1 z) 0 s d t y

-- the entries of old darts of one pair, where it tells of a corner
abbrev pub IsOldTurnEntry : Links → (ℕ → ℕ) → Triple → ℕ → ℕ → ℕ → Type 0
IsOldTurnEntry L star q d t y = (q.t ≡ 0) × IsAroundEntry L (star q.x) q.x q.y d t y

-- and those of the new dart
abbrev pub IsNewTurnEntry : Links → (ℕ → ℕ) → Triple → ℕ → ℕ → ℕ → Type 0
IsNewTurnEntry L star q d t y = (q.t ≡ 0) × IsNewEntry (cut_link L star q.x q.y) (star q.x) d t y

-- both, of all pairs
abbrev pub AreCutEntries : Links → (ℕ → ℕ) → List Triple → ℕ → ℕ → ℕ → Type 0
AreCutEntries L star pairs d t y = (q : Triple) × Contains pairs q × (IsOldTurnEntry L star q d t y ⊎ IsNewTurnEntry L star q d t y)

-- What the changes of one corner x ask, where link 1 leads from z into the other corner.
pub record IsTurn (L : Links) (keys : List ℕ) (x z : ℕ) : Type 0 where
  pub corner : Contains keys x
  pub begins : L 0 x ≢ 0
  pub ends : L 1 z ≢ 0
  pub other : Contains keys (L 1 z)
  pub copies : (j : ℕ) → 3 ≤ j → L j z ≢ 0 → Contains keys (L j z)

-- What the changes of an edge ask of the corners and their pairs.
pub record AreTurns (rows : Rows) (stars : Stars) (pairs : List Triple) : Type 0 where
  pub grow : CanGrow rows stars
  pub ascending : IsAscending pairs
  pub corners : (x : ℕ) → Contains stars.keys x ↔ IsCornerOf pairs x
  pub turn : (x z : ℕ) → Lists pairs x z 0 → IsTurn (links_of rows) stars.keys x z
  -- no two corners turn to one
  pub one : (x u z : ℕ) → Lists pairs x z 0 → Lists pairs u z 0 → x ≡ u
