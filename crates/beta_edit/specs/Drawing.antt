-- Links that are drawn across darts that end, and the changes that do so.
use Rattle.std.specs.Prelude.{ℕ, ◌≡◌, ◌≢◌, ◌<◌, ◌⊎◌, List, Contains, All, Option}
use Rattle.std.specs.List.Sorted.{IsStrictlyIncreasing}
use Rattle.map_defs.specs.Kind.{beta, inverse}
use Rattle.map_defs.specs.Links.{Links}
use Rattle.map_defs.specs.Laws.{Laws}
use Rattle.map_defs.specs.Rows.{Rows, links_of, IsLive}
use Rattle.map_defs.specs.Walks.{Walk}
use Rattle.beta_edit.specs.Crossing.{drawn_step, DrawsTo}

-- The links N after the darts of C end, where each link of a remaining dart is drawn across C by its own walk.
pub record IsDrawn (C : ℕ → Type 0) (Step : ℕ → ℕ → ℕ) (L N : Links) : Type 0 where
  -- a dart that ends has no links, and 0 is no dart
  pub gone : (x t : ℕ) → C x → N t x ≡ 0
  pub nothing : (t : ℕ) → N t 0 ≡ 0
  -- link t of a remaining dart leads to the first dart outside C of the walk that begins at its old link t
  pub lands : (x y t : ℕ) → (C x → ⊥) → Walk C (Step t) (L t x) y → N t x ≡ y

-- What is asked of darts that can end, where the links of the remaining darts are drawn across them.
pub record CanBeDrawn (rows : Rows) (beside : Option ℕ) (keys : List ℕ) : Type 0 where
  pub ascending : IsStrictlyIncreasing keys
  pub live : All (IsLive rows) keys
  -- each walk from a remaining dart ends
  pub ends : (x t : ℕ) → (Contains keys x → ⊥) → (y : ℕ) × DrawsTo (links_of rows) beside t keys (links_of rows t x) y
  -- and without these darts the laws are kept
  pub keeps : (N : Links) → IsDrawn (Contains keys) (drawn_step (links_of rows) beside) (links_of rows) N → Laws beta N

-- The entries of one link s of a dart b that ends: the link becomes free, and the inverse link of the dart where it leads is
-- drawn across, if that dart remains.
abbrev pub IsDrawnEntry : Links → Option ℕ → List ℕ → ℕ → ℕ → ℕ → ℕ → ℕ → Type 0
IsDrawnEntry L beside keys b s d t y = (L s b ≢ 0)
    × (((d ≡ b) × (t ≡ s) × (y ≡ 0)) ⊎ ((d ≡ L s b) × (Contains keys d → ⊥) × (t ≡ inverse beta s) × DrawsTo L beside t keys b y))

-- those of its links below m
abbrev pub IsDartEntry : Links → Option ℕ → List ℕ → ℕ → ℕ → ℕ → ℕ → ℕ → Type 0
IsDartEntry L beside keys m b d t y = (s : ℕ) × (s < m) × IsDrawnEntry L beside keys b s d t y

-- those of these darts, where all darts of keys end
abbrev pub IsCellEntry : Links → Option ℕ → List ℕ → ℕ → List ℕ → ℕ → ℕ → ℕ → Type 0
IsCellEntry L beside keys m darts d t y = (b : ℕ) × Contains darts b × IsDartEntry L beside keys m b d t y
