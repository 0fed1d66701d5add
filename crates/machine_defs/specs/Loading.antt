-- What a script starts from: the empty map, or the map of a mesh. Source: this project's.
use Rattle.std.specs.Prelude.{ℕ, ◌≡◌, ◌≢◌, ◌+◌, ◌*◌, ◌≤◌, ◌↔◌, List, [], ◌∷◌, ◌++◌, length, replicate, Option, Some, None, option_map, Result, Ok, Err, codes, slice_get}
use Rattle.map_defs.specs.Kind.{Kind}
use Rattle.map_defs.specs.Rows.{IsLive, links_of, AreWide}
use Rattle.map_defs.specs.Values.{Rule, First, Copied}
use Rattle.map_defs.specs.Polygon.{per_side}
use Rattle.machine_defs.specs.State.{Content, State, value_at, HasPlaces}
use Rattle.machine_defs.specs.Text.{ended, spaced}
use Rattle.map_defs.specs.Off.{Mesh, mesh_of}
use Rattle.map_defs.specs.Off as off
use Rattle.map_defs.specs.MeshMap.{MapFault, Full, Repeated, ThreeSides, Turned, sides_of, LiesAt, AreMeshLinks, mesh_fault}

-- the rule by which points merge and split
abbrev pub first_copy : Rule
first_copy = record { merge = First; split = Copied }

abbrev pub dart_count : Kind → Mesh → ℕ
dart_count k mesh = per_side k * length (sides_of mesh.faces)

-- The map of a mesh with its points: dimension 0 has the rule `first copy`, and the 0-cell of each dart has the point at
-- which the dart lies. There are no other values and rules.
pub record IsMeshContent (k : Kind) (n : ℕ) (mesh : Mesh) (c : Content) : Type 0 where
  pub kind : c.kind ≡ k
  pub dim : c.dim ≡ n
  pub long : length c.rows ≡ dart_count k mesh + 1
  pub live : (d : ℕ) → IsLive c.rows d ↔ ((1 ≤ d) × (d ≤ dart_count k mesh))
  pub wide : AreWide n c.rows
  pub links : AreMeshLinks k (sides_of mesh.faces) (links_of c.rows)
  pub rules : c.rules ≡ Some first_copy ∷ replicate n None
  pub places : HasPlaces c
  pub points : (d v : ℕ) → LiesAt k (sides_of mesh.faces) d v → value_at c 0 d ≡ slice_get mesh.points v
  pub others : (i d : ℕ) → i ≢ 0 → value_at c i d ≡ None

-- the machine's state with this content, before any line
abbrev pub first_state : Content → State
first_state c = record { present = c; past = []; marks = []; undone = [] }

-- the state to which the text of a mesh leads
pub record IsLoaded (k : Kind) (n : ℕ) (bytes : List ℕ) (start : State) : Type 0 where
  pub mesh : Mesh
  pub read : mesh_of bytes ≡ Ok mesh
  pub sound : mesh_fault k mesh ≡ None
  pub content : Content
  pub is : IsMeshContent k n mesh content
  pub begun : start ≡ first_state content

-- the line that tells of a fault of the text
abbrev pub text_fault_line : off.TextFault → List ℕ
text_fault_line fault = ended (codes "off line" ++ spaced fault.line ++ 32 ∷ off.name fault.what)

-- the line that tells why a mesh has no map
abbrev pub map_fault_line : MapFault → List ℕ
map_fault_line (Full darts) = ended (codes "off Full")
map_fault_line (Repeated face) = ended (codes "off face" ++ spaced face ++ codes " Repeated")
map_fault_line (ThreeSides face) = ended (codes "off face" ++ spaced face ++ codes " ThreeSides")
map_fault_line (Turned face) = ended (codes "off face" ++ spaced face ++ codes " Turned")

-- the line that refuses what was read, if it is refused
abbrev pub refusal_line : Kind → Result Mesh off.TextFault → Option (List ℕ)
refusal_line k (Err fault) = Some (text_fault_line fault)
refusal_line k (Ok mesh) = option_map map_fault_line (mesh_fault k mesh)
