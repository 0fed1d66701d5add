-- Ids that go to other dimensions, as the cells of a map do in its dual.
use Rattle.std.specs.Prelude.{ℕ, ◌≡◌, ◌-◌, ◌↔◌, nat_lt, if◌then◌else◌}
use Rattle.store_defs.specs.Labelings.{Labeling, id_of, HasPlaces}

-- the dimension of a map of dimension n whose cells are those of dimension i of its dual
abbrev pub turned : ℕ → ℕ → ℕ
turned n i = if nat_lt n i then i else n - i

-- Each dart has in each dimension the id that it had in the one whose cells come there, and place is made for the same ids.
pub record AreTurned (n : ℕ) (labels after : Labeling) : Type 0 where
  pub ids : (i d : ℕ) → id_of after i d ≡ id_of labels (turned n i) d
  pub places : (i : ℕ) → HasPlaces after i ↔ HasPlaces labels (turned n i)
  pub made : after.made ≡ labels.made

-- the dimension whose ids are in dimension i once those of the dimensions below m went to the other end
abbrev pub turned_below : ℕ → ℕ → ℕ → ℕ
turned_below n m i = if nat_lt i m then n - i else (if nat_lt n i then i else (if nat_lt (n - i) m then n - i else i))

-- some ids went to the other end, with those that stood there
pub record AreTurnedBelow (n m : ℕ) (labels after : Labeling) : Type 0 where
  pub ids : (i d : ℕ) → id_of after i d ≡ id_of labels (turned_below n m i) d
  pub places : (i : ℕ) → HasPlaces after i ↔ HasPlaces labels (turned_below n m i)
  pub made : after.made ≡ labels.made
