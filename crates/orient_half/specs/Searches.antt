-- The search of a component, and what is known when the components of the first darts were searched.
use Rattle.std.specs.Prelude.{ℕ, ◌≡◌, ◌≤◌, ◌<◌, ◌⊎◌, true, List, [], ◌∷◌, ◌++◌, length, take, slice_set, Contains, Option, Some, None}
use Rattle.map_defs.specs.Links.{Links}
use Rattle.map_defs.specs.Cells.{InComponent, NamesComponent}
use Rattle.orient_half.specs.declared.search.Reached.{Reached}
use Rattle.orient_half.specs.Marks.{Marks, sign_at, IsReached, IsKept, Clashes, IsFlipped, LeadsBack, AreHeld, AreQueued}

-- A dart y gets the mark r and stands behind the queue, unless it has a mark already.
abbrev pub IsGiven : Marks → Marks → List ℕ → List ℕ → ℕ → Reached → Option Reached → Type 0
IsGiven old new before after y r None = (new ≡ slice_set old y (Some r)) × (after ≡ before ++ y ∷ [])
IsGiven old new before after y r (Some known) = (new ≡ old) × (after ≡ before)

-- The search of the component of first, which began with the marks of old: what it reached since is the queue.
pub record IsSearched (n : ℕ) (Live : ℕ → Type 0) (L : Links) (first : ℕ) (old marks : Marks) (queue : List ℕ) : Type 0 where
  pub held : AreHeld n Live marks
  pub kept : IsKept old marks
  pub led : LeadsBack L first marks
  pub reached : (d : ℕ) → IsReached marks d → IsReached old d ⊎ Contains queue d
  pub within : (d : ℕ) → Contains queue d → InComponent L first d

-- what a visit of a dart of the queue adds
pub record IsGrown (n : ℕ) (Live : ℕ → Type 0) (L : Links) (old new : Marks) (before after : List ℕ) : Type 0 where
  pub held : AreHeld n Live new
  pub queued : AreQueued new after
  pub kept : IsKept old new
  pub behind : take (length before) after ≡ before
  pub searched : (first : ℕ) (start : Marks) → IsSearched n Live L first start old before → IsSearched n Live L first start new after

-- The components of the live darts below next were searched, and each link flips the signs there.
pub record IsSurveyed (n : ℕ) (Live : ℕ → Type 0) (L : Links) (next : ℕ) (marks : Marks) : Type 0 where
  pub held : AreHeld n Live marks
  pub met : (d : ℕ) → Live d → d < next → IsReached marks d
  pub flipped : IsFlipped n L marks
  pub least : (d : ℕ) → IsReached marks d → NamesComponent L d → sign_at marks d ≡ Some true

-- The search of the component of first came to a link that does not flip the signs.
pub record MeetsClash (n : ℕ) (Live : ℕ → Type 0) (L : Links) (first : ℕ) (marks : Marks) (d i : ℕ) : Type 0 where
  pub held : AreHeld n Live marks
  pub led : LeadsBack L first marks
  pub within : i ≤ n
  pub clashes : Clashes L marks d i
