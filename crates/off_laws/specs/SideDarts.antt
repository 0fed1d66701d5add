-- The darts that stand for the sides of the faces of a map's OFF text: those on the ways round its 2-cells, one way behind
-- the other.
use Rattle.std.specs.Prelude.{ℕ, ◌≡◌, ◌≢◌, ◌<◌, ◌⊎◌, List, length, slice_index}
use Rattle.map_defs.specs.Kind.{Kind, alpha, beta}
use Rattle.map_defs.specs.Links.{Links}
use Rattle.map_defs.specs.MeshMap.{sides_of}
use Rattle.map_defs.specs.OffOfMap.{next_round, LiesIn}
use Rattle.mesh_laws.specs.Sides.{side_of}

-- the dart that stands for side s, or in a generalized map the other dart of that side
abbrev pub IsOfSide : Kind → Links → List ℕ → ℕ → ℕ → Type 0
IsOfSide alpha L darts s d = (slice_index darts s ≡ d) ⊎ (L 0 (slice_index darts s) ≡ d)
IsOfSide beta L darts s d = slice_index darts s ≡ d

pub record AreSideDarts (k : Kind) (Live : ℕ → Type 0) (L : Links) (vertices : List ℕ) (faces : List (List ℕ)) (darts : List ℕ) : Type 0 where
  -- one for each side
  pub counted : length darts ≡ length (sides_of faces)
  pub live : (s : ℕ) → s < length darts → Live (slice_index darts s)
  -- no dart stands for two sides, nor is it the other dart of one
  pub apart : (s t : ℕ) → s < length darts → t < length darts → slice_index darts s ≡ slice_index darts t → s ≡ t
  pub other : (s t : ℕ) → k ≡ alpha → s < length darts → t < length darts → slice_index darts s ≢ L 0 (slice_index darts t)
  -- each dart is one of a side
  pub all : (d : ℕ) → Live d → (s : ℕ) × (s < length darts) × IsOfSide k L darts s d
  -- the way round leads from a side to the next of its face
  pub next : (s : ℕ) → s < length darts → next_round k L (slice_index darts s) ≡ slice_index darts (side_of (sides_of faces) s).next
  -- a side starts at the place of the 0-cell of its dart
  pub starts : (s : ℕ) → s < length darts → LiesIn k L vertices (slice_index darts s) (side_of (sides_of faces) s).from
