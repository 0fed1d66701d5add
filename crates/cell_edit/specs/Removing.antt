-- What an edit that ends the darts of a cell has to be.
use Rattle.std.specs.Prelude.{ℕ, ◌≡◌, ◌↔◌, Contains}
use Rattle.std.specs.List.Sorted.{IsStrictlyIncreasing}
use Rattle.map_defs.specs.Kind.{Kind}
use Rattle.map_defs.specs.Links.{Links}
use Rattle.map_defs.specs.Laws.{Laws}
use Rattle.map_defs.specs.Rows.{Rows, links_of}
use Rattle.map_defs.specs.Edits.{Edit, Fits, after_edit}

-- The edit fits the rows of a map of kind k and dimension n. It makes no dart, and ends just the darts of C, ascending.
-- The links after it are what Becomes asks, and they obey the laws.
pub record PlansEnding (k : Kind) (n : ℕ) (rows : Rows) (C : ℕ → Type 0) (Becomes : Links → Type 0) (edit : Edit) : Type 0 where
  pub births : edit.births ≡ 0
  pub members : (x : ℕ) → Contains edit.deaths x ↔ C x
  pub ascending : IsStrictlyIncreasing edit.deaths
  pub fits : Fits k n rows edit
  pub becomes : Becomes (links_of (after_edit n edit rows))
  pub laws : Laws k (links_of (after_edit n edit rows))
