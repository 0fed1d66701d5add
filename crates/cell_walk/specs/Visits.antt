-- What one visit of a walk adds to the darts that were found.
use Rattle.std.specs.Prelude.{ℕ, ◌≡◌, ◌⊎◌, List, [], ◌∷◌, ◌++◌, length, take, Contains, nat_eq}
use Rattle.std.specs.List.{IsDistinct}
use Rattle.map_defs.specs.Links.{Links}
use Rattle.map_defs.specs.LinkWords.{LinkWord}
use Rattle.map_defs.specs.Cells.{Leads}

-- the dart stands at the end of the list, unless the list had it
abbrev pub IsDartAdded : List ℕ → List ℕ → ℕ → Type 0
IsDartAdded old new d = (Contains old d × (new ≡ old)) ⊎ ((Contains old d → ⊥) × (new ≡ old ++ d ∷ []))

-- The darts to which the words lead from x were added, and no others.
pub record IsVisited (L : Links) (Words : LinkWord → Type 0) (x : ℕ) (old new : List ℕ) : Type 0 where
  pub before : take (length old) new ≡ old
  pub only : (y : ℕ) → Contains new y → Contains old y ⊎ Leads L Words x y
  pub all : (y : ℕ) → Leads L Words x y → Contains new y

-- the list has each dart once, and just its darts are told
pub record ListsOnce (Told : List ℕ → Type 0) (darts : List ℕ) : Type 0 where
  pub apart : IsDistinct nat_eq darts
  pub told : Told darts

-- each step from a dart of the list leads to a dart of the list
abbrev pub IsClosed : (ℕ → ℕ → Type 0) → List ℕ → Type 0
IsClosed Step darts = (x y : ℕ) → Contains darts x → Step x y → Contains darts y
