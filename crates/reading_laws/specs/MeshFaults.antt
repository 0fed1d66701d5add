-- What is wrong with a mesh, told by places: with a side by the sides that stand before it among all sides, with a face by
-- its corners and its first side with a fault, with the mesh by its first face with a fault. Source: what the map of a face
-- list asks for, where at most two sides lie between two points, in an oriented map one each way.
use Rattle.std.specs.Prelude.{ℕ, ◌≡◌, ◌≢◌, ◌+◌, ◌*◌, ◌<◌, ◌≤◌, ◌⊎◌, List, [], length, take, slice_index, slice_index_or}
use Rattle.map_defs.specs.Kind.{Kind, beta}
use Rattle.map_defs.specs.Rows.{made_max}
use Rattle.map_defs.specs.Polygon.{per_side}
use Rattle.map_defs.specs.Off.{Mesh}
use Rattle.map_defs.specs.MeshMap.{Side, sides_of, MapFault, Full, Repeated, ThreeSides, Turned}
use Rattle.mesh_laws.specs.Sides.{side_of}

-- two places of a face have the same corner
abbrev pub RepeatsCorner : List ℕ → Type 0
RepeatsCorner corners = (i : ℕ) × (j : ℕ) × (i < j) × (j < length corners) × (slice_index corners i ≡ slice_index corners j)

-- two sides have the same two points
abbrev pub HaveSamePoints : Side → Side → Type 0
HaveSamePoints s t = ((s.from ≡ t.from) × (s.to ≡ t.to)) ⊎ ((s.from ≡ t.to) × (s.to ≡ t.from))

-- side q is an earlier one with the two points of side p
abbrev pub IsEarlier : List Side → ℕ → ℕ → Type 0
IsEarlier sides p q = (q < p) × HaveSamePoints (side_of sides q) (side_of sides p)

-- two earlier sides have the two points of side p
abbrev pub IsThird : List Side → ℕ → Type 0
IsThird sides p = (q : ℕ) × (r : ℕ) × IsEarlier sides p q × IsEarlier sides p r × (q ≢ r)

-- just one earlier side has the two points of side p, and starts at the same of them
abbrev pub IsTurned : List Side → ℕ → Type 0
IsTurned sides p =
    (q : ℕ) × IsEarlier sides p q × ((r : ℕ) → IsEarlier sides p r → r ≡ q) × ((side_of sides q).from ≡ (side_of sides p).from)

-- what is wrong with side p, which is one of face f
pub data IsSideFault (k : Kind) (sides : List Side) (f p : ℕ) (fault : MapFault) : Type 0 where
  third : IsThird sides p → fault ≡ ThreeSides f → IsSideFault k sides f p fault
  turned : k ≡ beta → IsTurned sides p → fault ≡ Turned f → IsSideFault k sides f p fault

-- side p is one of face f: the faces before f have no side at this place, and with face f there is one
abbrev pub IsSideOf : List (List ℕ) → ℕ → ℕ → Type 0
IsSideOf faces f p = (length (sides_of (take f faces)) ≤ p) × (p < length (sides_of (take (f + 1) faces)))

-- what is wrong with face f: a corner comes twice, or else what is wrong with its first side that has a fault
pub data IsFaceFault (k : Kind) (faces : List (List ℕ)) (f : ℕ) (fault : MapFault) : Type 0 where
  repeated : RepeatsCorner (slice_index_or faces f []) → fault ≡ Repeated f → IsFaceFault k faces f fault
  of_side : (p : ℕ) → (RepeatsCorner (slice_index_or faces f []) → ⊥) → IsSideOf faces f p → IsSideFault k (sides_of faces) f p fault
      → ((q : ℕ) (other : MapFault) → q < p → IsSideOf faces f q → IsSideFault k (sides_of faces) f q other → ⊥) → IsFaceFault k faces f fault

-- what is wrong with a mesh: too many darts, or else what is wrong with its first face that has a fault
pub data IsMeshFault (k : Kind) (mesh : Mesh) (fault : MapFault) : Type 0 where
  full : made_max < per_side k * length (sides_of mesh.faces) → fault ≡ Full (per_side k * length (sides_of mesh.faces)) → IsMeshFault k mesh fault
  of_face : (f : ℕ) → per_side k * length (sides_of mesh.faces) ≤ made_max → IsFaceFault k mesh.faces f fault
      → ((g : ℕ) (other : MapFault) → g < f → IsFaceFault k mesh.faces g other → ⊥) → IsMeshFault k mesh fault

-- The sides of a mesh can be sewn, said with no order: the darts are not too many, no face has a corner twice, no three sides
-- have the same two points, and two such sides do not start at the same point where the map is oriented.
pub record CanBeSewn (k : Kind) (mesh : Mesh) : Type 0 where
  pub few : per_side k * length (sides_of mesh.faces) ≤ made_max
  pub once : (f : ℕ) → RepeatsCorner (slice_index_or mesh.faces f []) → ⊥
  pub two : (p q r : ℕ) → p < q → q < r → r < length (sides_of mesh.faces) → HaveSamePoints (side_of (sides_of mesh.faces) p) (side_of (sides_of mesh.faces) r)
      → HaveSamePoints (side_of (sides_of mesh.faces) q) (side_of (sides_of mesh.faces) r) → ⊥
  pub apart : k ≡ beta → (p q : ℕ) → p < q → q < length (sides_of mesh.faces) → HaveSamePoints (side_of (sides_of mesh.faces) p) (side_of (sides_of mesh.faces) q)
      → (side_of (sides_of mesh.faces) p).from ≢ (side_of (sides_of mesh.faces) q).from
