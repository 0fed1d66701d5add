-- Lists of the darts of cells.
use Rattle.std.specs.Prelude.{ℕ, ◌≡◌, ◌<◌, ◌↔◌, List, [], length, slice_index, slice_index_or, Contains}
use Rattle.std.specs.List.Sorted.{IsStrictlyIncreasing}
use Rattle.map_defs.specs.Kind.{Kind}
use Rattle.map_defs.specs.Links.{Links}
use Rattle.map_defs.specs.Cells.{InOrbit, InCell}

-- For each of these darts, in the same order, a list of the darts that belong to it, ascending.
pub record AreListsOf (Belongs : ℕ → ℕ → Type 0) (darts : List ℕ) (lists : List (List ℕ)) : Type 0 where
  pub long : length lists ≡ length darts
  pub members : (n : ℕ) → n < length darts → (y : ℕ) → Contains (slice_index_or lists n []) y ↔ Belongs (slice_index darts n) y
  pub ascending : (n : ℕ) → n < length darts → IsStrictlyIncreasing (slice_index_or lists n [])

-- the darts of the cells of these darts
abbrev pub AreCellsOf : Kind → Links → ℕ → List ℕ → List (List ℕ) → Type 0
AreCellsOf k L dim darts cells = AreListsOf (InCell k L dim) darts cells

-- the darts of their orbits
abbrev pub AreOrbitsOf : (ℕ → ℕ → Type 0) → List ℕ → List (List ℕ) → Type 0
AreOrbitsOf Step darts orbits = AreListsOf (InOrbit Step) darts orbits
