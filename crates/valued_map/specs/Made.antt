-- The content of a map that is made from nothing.
use Rattle.std.specs.Prelude.{ℕ, ◌≡◌, ◌≢◌, List, ◌∷◌, replicate, Some, None, All}
use Rattle.map_defs.specs.Kind.{Kind}
use Rattle.map_defs.specs.Rows.{Rows, links_of}
use Rattle.map_defs.specs.Cells.{InCell}
use Rattle.map_defs.specs.Values.{Place}
use Rattle.machine_defs.specs.State.{Content, value_at, HasPlaces}
use Rattle.machine_defs.specs.Kept.{IsLawfulContent}
use Rattle.machine_defs.specs.Loading.{first_copy}

-- The rows are these; dimension 0 has the rule `first copy`, and each of these cells has its value. There are no
-- other values and rules.
pub record IsMadeOf (k : Kind) (n : ℕ) (rows : Rows) (places : List Place) (c : Content) : Type 0 where
  pub kind : c.kind ≡ k
  pub dim : c.dim ≡ n
  pub rows_are : c.rows ≡ rows
  pub rules : c.rules ≡ Some first_copy ∷ replicate n None
  pub places_are : HasPlaces c
  pub values : All (λ place. (d : ℕ) → InCell k (links_of c.rows) 0 place.dart d → value_at c 0 d ≡ Some place.value) places
  pub others : (i d : ℕ) → i ≢ 0 → value_at c i d ≡ None
  pub kept : IsLawfulContent c
