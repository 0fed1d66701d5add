-- The new darts of an insertion by their numbers.
use Rattle.std.specs.Prelude.{ℕ, ◌+◌, List, [], ◌∷◌, ◌==◌, if◌then◌else◌}

-- the darts that get new ones, ascending, and how many darts were made before
pub record Stars : Type 0 where
  pub keys : List ℕ
  pub made : ℕ

-- the number of x, where the keys are numbered on from next; 0 where x is no key
unfoldable pub number_from : ℕ → List ℕ → ℕ → ℕ
number_from next [] x = 0
number_from next (key ∷ keys) x = if key == x then next else number_from (next + 1) keys x

-- the new dart of x
abbrev pub star_of : Stars → ℕ → ℕ
star_of stars x = number_from (stars.made + 1) stars.keys x
