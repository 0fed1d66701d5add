-- What an edit that inserts has to be.
use Rattle.std.specs.Prelude.{ℕ, ◌≡◌, List, [], length}
use Rattle.map_defs.specs.Kind.{Kind}
use Rattle.map_defs.specs.Links.{Links}
use Rattle.map_defs.specs.Laws.{Laws}
use Rattle.map_defs.specs.Rows.{Rows, links_of, made}
use Rattle.map_defs.specs.Births.{IsNumbered}
use Rattle.map_defs.specs.Edits.{Edit, Fits, after_edit}

-- The edit fits the rows of a map of kind k and dimension n. It makes a new dart for each dart of K, numbered on from the
-- darts that were made in the order of the darts of K, and ends none. The links after it are what Becomes asks of the new
-- darts and the links, and they obey the laws.
pub record PlansInsertion (k : Kind) (n : ℕ) (rows : Rows) (K : ℕ → Type 0) (Becomes : (ℕ → ℕ) → Links → Type 0) (edit : Edit) : Type 0 where
  pub deaths : edit.deaths ≡ []
  pub fits : Fits k n rows edit
  pub keys : List ℕ
  pub star : ℕ → ℕ
  pub numbered : IsNumbered K keys (made rows) star
  pub births : edit.births ≡ length keys
  pub becomes : Becomes star (links_of (after_edit n edit rows))
  pub laws : Laws k (links_of (after_edit n edit rows))
