-- Contents that follow one another, and many differences put forward and taken back. Source: this project's.
use Rattle.std.specs.Prelude.{ℕ, ◌≡◌, ◌≤◌, ◌<◌, ◌⊎◌, List, [], ◌∷◌, length}
use Rattle.map_defs.specs.Rows.{made, IsLive, IsSound}
use Rattle.machine_defs.specs.State.{Content, HasPlaces}
use Rattle.machine_defs.specs.Difference.{Difference, put_forward, taken_back}

-- What the content b keeps of the content a where it follows that one.
pub record Follows (a b : Content) : Type 0 where
  -- both are of one kind and dimension, with as many places for rules
  pub kind : b.kind ≡ a.kind
  pub dim : b.dim ≡ a.dim
  pub rules : length b.rules ≡ length a.rules
  -- both are sound, with values in their places
  pub begun : 1 ≤ length a.rows
  pub sound : IsSound a.kind a.dim a.rows
  pub next_sound : IsSound b.kind b.dim b.rows
  pub places : HasPlaces a
  pub next_places : HasPlaces b
  -- the numbers of darts go on, and no dart that ended lives again
  pub grown : made a.rows ≤ made b.rows
  pub ended : (d : ℕ) → IsLive b.rows d → IsLive a.rows d ⊎ (made a.rows < d)
  -- no dart was born and ended in the one step
  pub born : (d : ℕ) → made a.rows < d → d ≤ made b.rows → IsLive b.rows d

-- each content follows the one before it
abbrev pub AllFollow : List Content → Type 0
AllFollow [] = Unit
AllFollow (a ∷ []) = Unit
AllFollow (a ∷ b ∷ more) = Follows a b × AllFollow (b ∷ more)

-- the content after all differences, the first put forward first
abbrev pub all_put_forward : List Difference → Content → Content
all_put_forward [] c = c
all_put_forward (s ∷ ss) c = all_put_forward ss (put_forward s c)

-- the content before all differences, the last taken back first
abbrev pub all_taken_back : List Difference → Content → Content
all_taken_back [] c = c
all_taken_back (s ∷ ss) c = taken_back s (all_taken_back ss c)
