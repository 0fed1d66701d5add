-- What a contract sees of darts whose cells are wanted.
use Rattle.std.specs.Prelude.{ℕ, List, Bool, false, slice_index_or, IsTrue}

-- The darts, and the marks at the same places: the cell of the dart is found.
pub record Wanted : Type 0 where
  pub darts : List ℕ
  pub marks : List Bool

-- the cell of the dart at a place is found
abbrev pub IsMarked : Wanted → ℕ → Type 0
IsMarked wanted place = IsTrue (slice_index_or wanted.marks place false)
