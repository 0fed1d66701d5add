-- Marks at the places of darts.
use Rattle.std.specs.Prelude.{ℕ, ◌≡◌, ◌≢◌, ◌↔◌, ◌⊎◌, ◌++◌, Bool, false, List, length, slice_index_or, All, Contains, IsTrue}
use Rattle.map_defs.specs.Links.{Links}
use Rattle.map_defs.specs.LinkWords.{LinkWord}
use Rattle.map_defs.specs.Cells.{InOrbit}
use Rattle.cell_walk.specs.Visits.{IsClosed, IsVisited}

-- the mark at the dart's place is set
abbrev pub IsMarked : List Bool → ℕ → Type 0
IsMarked marks d = IsTrue (slice_index_or marks d false)

-- Just the darts of the list are marked, and so is the place of 0, which is no dart.
pub record AreMarked (marks : List Bool) (darts : List ℕ) : Type 0 where
  pub nothing : IsMarked marks 0
  pub told : (d : ℕ) → d ≢ 0 → IsMarked marks d ↔ Contains darts d

-- More was marked: where the darts of a list were, those of another are, in the order in which they were found.
pub record IsMarkedMore (Found : List ℕ → List ℕ → Type 0) (old new : List Bool) : Type 0 where
  pub places : length new ≡ length old
  pub kept : (d : ℕ) → IsMarked old d → IsMarked new d
  pub found : (before : List ℕ) → AreMarked old before → (after : List ℕ) × AreMarked new after × Found before after

-- The orbit of d was found, besides what was found before, if no step led out of that.
abbrev pub IsOrbitFound : (ℕ → ℕ → Type 0) → ℕ → List ℕ → List ℕ → Type 0
IsOrbitFound Step d old new = IsClosed Step old → (y : ℕ) → Contains new y ↔ (Contains old y ⊎ InOrbit Step d y)

-- The darts to which the words lead from x were marked and put behind a list, unless they were marked before.
pub record AreQueued (L : Links) (Live : ℕ → Type 0) (Words : LinkWord → Type 0) (x : ℕ) (old : List Bool) (queue : List ℕ) (new : List Bool) (longer : List ℕ) : Type 0 where
  pub places : length new ≡ length old
  pub kept : (d : ℕ) → IsMarked old d → IsMarked new d
  pub lives : All Live queue → All Live longer
  pub visited : (before : List ℕ) → AreMarked old (before ++ queue) → AreMarked new (before ++ longer) × IsVisited L Words x (before ++ queue) (before ++ longer)
