-- The sides of a mesh by their numbers, and which of them are sewn.
use Rattle.std.specs.Prelude.{ℕ, Bool, true, false, ◌≡◌, ◌≢◌, ◌<◌, ◌⊎◌, List, length, Option, Some, None, slice_index_or}
use Rattle.map_defs.specs.Kind.{Kind, alpha, beta}
use Rattle.map_defs.specs.MeshMap.{Side, has_ends}

-- the kind whose maps are oriented or not
abbrev pub kind_of : Bool → Kind
kind_of true = beta
kind_of false = alpha

-- a side of no face
abbrev pub no_side : Side
no_side = record { number = 0; from = 0; to = 0; next = 0; previous = 0 }

abbrev pub side_of : List Side → ℕ → Side
side_of sides s = slice_index_or sides s no_side

abbrev pub partner_of : List (Option ℕ) → ℕ → Option ℕ
partner_of partners s = slice_index_or partners s None

-- side s has its two points for itself
abbrev pub IsAlone : List Side → ℕ → Type 0
IsAlone sides s = (t : ℕ) → t < length sides → has_ends (side_of sides s) (side_of sides t) ≡ true → t ≡ s

-- Side t is the only other one with the points of side s, and leads the other way where the map is oriented.
pub record IsPair (oriented : Bool) (sides : List Side) (s t : ℕ) : Type 0 where
  pub within : t < length sides
  pub apart : t ≢ s
  pub ends : has_ends (side_of sides s) (side_of sides t) ≡ true
  pub turned : oriented ≡ true → (side_of sides s).from ≢ (side_of sides t).from
  pub only : (u : ℕ) → u < length sides → has_ends (side_of sides s) (side_of sides u) ≡ true → (u ≡ s) ⊎ (u ≡ t)

abbrev pub HasPartner : Bool → List Side → List (Option ℕ) → ℕ → Option ℕ → Type 0
HasPartner oriented sides partners s None = IsAlone sides s
HasPartner oriented sides partners s (Some t) = IsPair oriented sides s t × (partner_of partners t ≡ Some s)

-- Each side is numbered by its place and stands between two sides of its face, which lead on to each other.
pub record IsRing (sides : List Side) (s : ℕ) : Type 0 where
  pub number : (side_of sides s).number ≡ s
  pub next : (side_of sides s).next < length sides
  pub previous : (side_of sides s).previous < length sides
  pub on : (side_of sides (side_of sides s).next).previous ≡ s
  pub back : (side_of sides (side_of sides s).previous).next ≡ s
  pub meets : (side_of sides (side_of sides s).next).from ≡ (side_of sides s).to

-- The partners are just those of these sides.
pub record IsSewn (oriented : Bool) (sides : List Side) (partners : List (Option ℕ)) : Type 0 where
  pub long : length partners ≡ length sides
  pub ring : (s : ℕ) → s < length sides → IsRing sides s
  pub each : (s : ℕ) → s < length sides → HasPartner oriented sides partners s (partner_of partners s)
