-- What the whole-map calls have found when they have looked at the darts below some number.
use Rattle.std.specs.Prelude.{ℕ, ◌≢◌, ◌≤◌, ◌<◌, Bool, List, Contains}
use Rattle.std.specs.List.Sorted.{IsStrictlyIncreasing}
use Rattle.map_defs.specs.Cells.{InOrbit}
use Rattle.cell_walk.specs.Visits.{IsClosed}
use Rattle.cell_walk.specs.Marks.{AreMarked}

-- each step from a dart can be taken back
abbrev pub TurnsBack : (ℕ → ℕ → Type 0) → Type 0
TurnsBack Step = (x y : ℕ) → x ≢ 0 → Step x y → Step y x

-- d is the least dart of its orbit
abbrev pub IsLeast : (ℕ → ℕ → Type 0) → ℕ → Type 0
IsLeast Step d = (e : ℕ) → InOrbit Step d e → d ≤ e

-- The live darts below next were looked at: just their orbits were found, and the least darts of these orbits are
-- listed, ascending.
pub record IsSurveyed (Step : ℕ → ℕ → Type 0) (Live : ℕ → Type 0) (next : ℕ) (found least : List ℕ) : Type 0 where
  pub met : (y : ℕ) → Contains found y → (e : ℕ) × (e < next) × Live e × InOrbit Step e y
  pub all : (e y : ℕ) → e < next → Live e → InOrbit Step e y → Contains found y
  pub closed : IsClosed Step found
  pub sound : (d : ℕ) → Contains least d → (d < next) × Live d × IsLeast Step d
  pub whole : (d : ℕ) → d < next → Live d → IsLeast Step d → Contains least d
  pub ascending : IsStrictlyIncreasing least

-- the same, where what was found is marked
abbrev pub AreSurveyed : (ℕ → ℕ → Type 0) → (ℕ → Type 0) → ℕ → List Bool → List ℕ → Type 0
AreSurveyed Step Live next marks least = (found : List ℕ) × AreMarked marks found × IsSurveyed Step Live next found least
