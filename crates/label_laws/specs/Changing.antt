-- Ids that are taken away, and ids that are given.
use Rattle.std.specs.Prelude.{ℕ, zero, suc, ◌≡◌, ◌≢◌, ◌≤◌, ◌<◌, ◌⊎◌, List, length, Option, Some, None, Contains}
use Rattle.map_defs.specs.Values.{Value}
use Rattle.store_defs.specs.Stores.{Store, value_of}
use Rattle.store_defs.specs.Labelings.{Labeling, id_of, KeepsPlaces}
use Rattle.store_defs.specs.Groups.{Group, group_at}

-- The ids of these places were taken away: each place is among them and has no id, or it is not and has the id that it
-- had. A value that is gone had an id of such a place.
pub record AreTaken (Place : ℕ → ℕ → Type 0) (labels after : Labeling) (pool left : Store) : Type 0 where
  pub each : (i d : ℕ) → (Place i d × (id_of after i d ≡ None)) ⊎ ((Place i d → ⊥) × (id_of after i d ≡ id_of labels i d))
  pub values : (c : ℕ) → (value_of left c ≡ value_of pool c) ⊎ ((i : ℕ) × (d : ℕ) × Place i d × (id_of labels i d ≡ Some c))
  pub made : after.made ≡ labels.made
  pub places : KeepsPlaces labels after
  pub spare : pool.spare ≤ left.spare

-- The darts have this id of dimension i, and all else has the id that it had.
pub record HaveId (i : ℕ) (Darts : ℕ → Type 0) (id : ℕ) (labels after : Labeling) : Type 0 where
  pub each : (j d : ℕ) → ((j ≡ i) × Darts d × (id_of after j d ≡ Some id)) ⊎ ((j ≡ i → Darts d → ⊥) × (id_of after j d ≡ id_of labels j d))
  pub made : after.made ≡ labels.made
  pub places : KeepsPlaces labels after

-- The darts have a new id of dimension i, which stands for this value, and no other place has it.
pub record AreGiven (i : ℕ) (Darts : ℕ → Type 0) (value : Value) (labels after : Labeling) (pool left : Store) : Type 0 where
  pub id : ℕ
  pub fresh : value_of pool id ≡ None
  pub value_is : value_of left id ≡ Some value
  pub values : (c : ℕ) → c ≢ id → value_of left c ≡ value_of pool c
  pub each : (j d : ℕ) → ((j ≡ i) × Darts d × (id_of after j d ≡ Some id)) ⊎ ((j ≡ i → Darts d → ⊥) × (id_of after j d ≡ id_of labels j d))
  pub made : after.made ≡ labels.made
  pub places : KeepsPlaces labels after

-- d is a dart of dimension i of one of the first k groups
abbrev pub IsGroupedBelow : ℕ → List Group → ℕ → ℕ → Type 0
IsGroupedBelow k groups i d = (n : ℕ) × (n < k) × (i ≡ (group_at groups n).dim) × Contains (group_at groups n).darts d

-- the darts have an id for their value, if there is one
abbrev pub HaveIdFor : ℕ → List ℕ → Option Value → Labeling → Labeling → Store → Store → Type 0
HaveIdFor i darts None labels after pool left = (after ≡ labels) × (left ≡ pool)
HaveIdFor i darts (Some value) labels after pool left = AreGiven i (Contains darts) value labels after pool left

abbrev pub IsGroupGiven : Group → Labeling → Labeling → Store → Store → Type 0
IsGroupGiven g labels after pool left = HaveIdFor g.dim g.darts g.value labels after pool left

-- the first k groups have ids for their values, given one after another
abbrev pub AreGroupsGiven : List Group → ℕ → Labeling → Labeling → Store → Store → Type 0
AreGroupsGiven groups zero labels after pool left = (after ≡ labels) × (left ≡ pool)
AreGroupsGiven groups (suc k) labels after pool left = (mid : Labeling) × (rest : Store)
    × AreGroupsGiven groups k labels mid pool rest × IsGroupGiven (group_at groups k) mid after rest left

-- the ids of these places were taken away, and then the groups were given theirs
abbrev pub AreRelabelled : (ℕ → ℕ → Type 0) → List Group → Labeling → Labeling → Store → Store → Type 0
AreRelabelled Place groups labels after pool left = (mid : Labeling) × (rest : Store)
    × AreTaken Place labels mid pool rest × AreGroupsGiven groups (length groups) mid after rest left
