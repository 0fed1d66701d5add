-- What a search has marked at the places of darts: how each was reached.
use Rattle.std.specs.Prelude.{ℕ, ◌≡◌, ◌≢◌, ◌≤◌, ◌<◌, Bool, true, not, List, length, Contains, Option, Some, None, IsSome, slice_index_or}
use Rattle.map_defs.specs.Links.{Links}
use Rattle.orient_half.specs.declared.search.Reached.{Reached}

abbrev pub Marks : Type 0
Marks = List (Option Reached)

abbrev pub mark_at : Marks → ℕ → Option Reached
mark_at marks d = slice_index_or marks d None

abbrev pub IsReached : Marks → ℕ → Type 0
IsReached marks d = IsSome (mark_at marks d)

abbrev pub sign_of : Option Reached → Option Bool
sign_of None = None
sign_of (Some reached) = Some reached.positive

-- the sign of a dart that was reached
abbrev pub sign_at : Marks → ℕ → Option Bool
sign_at marks d = sign_of (mark_at marks d)

-- a dart once reached stays as it was reached
abbrev pub IsKept : Marks → Marks → Type 0
IsKept old new = (d : ℕ) (reached : Reached) → mark_at old d ≡ Some reached → mark_at new d ≡ Some reached

-- link i of d leads to a dart of the other sign
abbrev pub Flips : Links → Marks → ℕ → ℕ → Type 0
Flips L marks d i = (positive : Bool) × (sign_at marks d ≡ Some positive) × (sign_at marks (L i d) ≡ Some (not positive))

-- it leads to a dart of the same sign
abbrev pub Clashes : Links → Marks → ℕ → ℕ → Type 0
Clashes L marks d i = (positive : Bool) × (sign_at marks d ≡ Some positive) × (sign_at marks (L i d) ≡ Some positive)

-- each link of a dart that was reached flips its sign
abbrev pub IsFlipped : ℕ → Links → Marks → Type 0
IsFlipped n L marks = (d i : ℕ) → IsReached marks d → i ≤ n → Flips L marks d i

-- The link by which a dart was reached leads back to a dart of the other sign, but for the first dart, which is positive.
pub record LeadsBack (L : Links) (first : ℕ) (marks : Marks) : Type 0 where
  pub begun : sign_at marks first ≡ Some true
  pub back : (d : ℕ) (reached : Reached) → mark_at marks d ≡ Some reached → d ≢ first → sign_at marks (L reached.link d) ≡ Some (not reached.positive)

-- Each live dart has a place among the marks, and live darts alone were reached, along links of the map.
pub record AreHeld (n : ℕ) (Live : ℕ → Type 0) (marks : Marks) : Type 0 where
  pub room : (d : ℕ) → Live d → d < length marks
  pub live : (d : ℕ) → IsReached marks d → Live d
  pub within : (d : ℕ) (reached : Reached) → mark_at marks d ≡ Some reached → reached.link ≤ n

-- the darts of the queue were reached
abbrev pub AreQueued : Marks → List ℕ → Type 0
AreQueued marks queue = (d : ℕ) → Contains queue d → IsReached marks d
