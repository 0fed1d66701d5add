-- What it is that a map is read back from its OFF text, and what it takes. Source: isomorphism of maps, as CGAL's
-- is_isomorphic_to tests it.
use Rattle.std.specs.Prelude.{ℕ, ◌≡◌, ◌≢◌, ◌<◌, ◌≤◌, ◌^◌, ◌⊎◌, List, length, slice_index, All}
use Rattle.map_defs.specs.Kind.{Kind, alpha, beta}
use Rattle.map_defs.specs.Links.{Links, HasDimension}
use Rattle.map_defs.specs.Rows.{Rows, IsLive, links_of}
use Rattle.map_defs.specs.Cells.{InCell}
use Rattle.map_defs.specs.Values.{IsRepresentable}
use Rattle.map_defs.specs.Off.{Mesh}
use Rattle.map_defs.specs.OffOfMap.{OffRows}
use Rattle.machine_defs.specs.State.{Content, value_at}

-- the mesh that the rows tell
abbrev pub mesh_told : OffRows → Mesh
mesh_told off = record { points = off.points; faces = off.faces }

-- What a reader of OFF text asks for: 64 bits hold the numbers of points, 32 bits how many points, faces and edges there are,
-- and a face has 3 to 65,536 corners, each the place of a point.
pub record IsReadable (off : OffRows) : Type 0 where
  pub held : All IsRepresentable off.points
  pub few_points : length off.points < 2 ^ 32
  pub few_faces : length off.faces < 2 ^ 32
  pub few_edges : off.edges < 2 ^ 32
  pub sides : All (λ corners. (3 ≤ length corners) × (length corners ≤ 65536)) off.faces
  pub corners : All (λ corners. All (λ v. v < length off.points) corners) off.faces

-- no corner of a face is a corner of it again
abbrev pub IsSimple : List ℕ → Type 0
IsSimple corners = (i j : ℕ) → i < j → j < length corners → slice_index corners i ≢ slice_index corners j

-- x and y lie in one 0-cell
abbrev pub MeetsAt : Kind → Links → ℕ → ℕ → Type 0
MeetsAt k L x y = InCell k L 0 x y

-- Sides that have the same two 0-cells are sewn: in a generalized map, where two darts lie at one 0-cell and the other ends
-- of their sides at one, link 2 joins them, if they are not the same; in a combinatorial map no other dart leads the same way,
-- and link 2 joins a dart and one that leads the other way.
abbrev pub AreSidesSewn : Kind → (ℕ → Type 0) → Links → Type 0
AreSidesSewn alpha Live L = (x y : ℕ) → Live x → Live y → MeetsAt alpha L x y → MeetsAt alpha L (L 0 x) (L 0 y) → (x ≡ y) ⊎ (L 2 x ≡ y)
AreSidesSewn beta Live L = (x y : ℕ) → Live x → Live y
    → (MeetsAt beta L x y → MeetsAt beta L (L 1 x) (L 1 y) → x ≡ y)
    × (MeetsAt beta L x (L 1 y) → MeetsAt beta L (L 1 x) y → L 2 x ≡ y)

-- The map can be told by its faces alone.
pub record IsToldByFaces (k : Kind) (rows : Rows) (off : OffRows) : Type 0 where
  -- links from 3 upwards are free
  pub flat : HasDimension 2 (links_of rows)
  -- no face names a 0-cell twice
  pub simple : All IsSimple off.faces
  -- sides with the same two 0-cells are sewn
  pub sewn : AreSidesSewn k (IsLive rows) (links_of rows)

-- The darts that live are renumbered: one to one onto those that live then, and each link leads as before.
pub record IsRenumbered (Live Live' : ℕ → Type 0) (L L' : Links) (renumber : ℕ → ℕ) : Type 0 where
  -- 0 is no dart
  pub nothing : renumber 0 ≡ 0
  pub live : (d : ℕ) → Live d → Live' (renumber d)
  pub apart : (d e : ℕ) → Live d → Live e → renumber d ≡ renumber e → d ≡ e
  pub onto : (e : ℕ) → Live' e → (d : ℕ) × Live d × (renumber d ≡ e)
  pub links : (i d : ℕ) → Live d → L' i (renumber d) ≡ renumber (L i d)

-- The two contents hold one map up to the numbers of darts, with the same values of 0-cells.
pub record IsSameMap (old new : Content) : Type 0 where
  pub kind : new.kind ≡ old.kind
  pub dim : new.dim ≡ old.dim
  pub renumber : ℕ → ℕ
  pub renumbered : IsRenumbered (IsLive old.rows) (IsLive new.rows) (links_of old.rows) (links_of new.rows) renumber
  pub points : (d : ℕ) → IsLive old.rows d → value_at new 0 (renumber d) ≡ value_at old 0 d
