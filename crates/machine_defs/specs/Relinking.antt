-- What a change of links leaves of a map besides the links themselves. Source: this project's.
use Rattle.std.specs.Prelude.{ℕ, ◌≡◌, ◌+◌, ◌<◌, ◌≤◌, ◌⊎◌, ◌↔◌, List, length, Option, Some, None}
use Rattle.map_defs.specs.Links.{Links}
use Rattle.map_defs.specs.Rows.{made, made_max, IsLive, links_of, AreWide}
use Rattle.map_defs.specs.Counts.{HasCount}
use Rattle.map_defs.specs.Births.{IsNumbered}
use Rattle.map_defs.specs.Values.{Rule, Hook, meaning_of}
use Rattle.map_defs.specs.Carry.{AreCarried}
use Rattle.machine_defs.specs.State.{Content, value_at, rule_at, HasPlaces}

-- no dart at all
abbrev pub NoDart : ℕ → Type 0
NoDart d = ⊥

-- The values of dimension i after a change of links: its rule carries them from the old cells to the new ones; without a
-- rule there are none.
abbrev pub AreCarriedBy : Hook → Content → Content → ℕ → Option Rule → Type 0
AreCarriedBy hook c next i None = (d : ℕ) → value_at next i d ≡ None
AreCarriedBy hook c next i (Some rule) =
    AreCarried c.kind i (meaning_of hook rule) (links_of c.rows) (IsLive c.rows) (value_at c i) (links_of next.rows) (IsLive next.rows) (value_at next i)

-- The content after a change of links: so many darts are born, numbered on from those that were made, the darts of Ended
-- end, the links are as Becomes tells, and the values are carried.
pub record IsRelinked (hook : Hook) (c : Content) (births : ℕ) (Ended : ℕ → Type 0) (Becomes : Links → Type 0) (next : Content) : Type 0 where
  pub kind : next.kind ≡ c.kind
  pub dim : next.dim ≡ c.dim
  pub long : length next.rows ≡ length c.rows + births
  pub live : (d : ℕ) → IsLive next.rows d ↔ ((IsLive c.rows d ⊎ ((made c.rows < d) × (d ≤ made c.rows + births))) × (Ended d → ⊥))
  pub wide : AreWide c.dim next.rows
  pub links : Becomes (links_of next.rows)
  pub rules : next.rules ≡ c.rules
  pub places : HasPlaces next
  pub values : (i : ℕ) → i ≤ c.dim → AreCarriedBy hook c next i (rule_at c i)

-- with a new dart for each dart of K too many would have been made
abbrev pub IsTooMany : Content → (ℕ → Type 0) → Type 0
IsTooMany c K = (births : ℕ) × HasCount K births × (made_max < made c.rows + births)

-- The content after an insertion: each dart of K gets a new dart, numbered on from those that were made in the order of the
-- darts of K; the links are as Becomes tells of the new darts, and the values are carried.
pub record IsGrown (hook : Hook) (c : Content) (K : ℕ → Type 0) (Becomes : (ℕ → ℕ) → Links → Type 0) (births : ℕ) (next : Content) : Type 0 where
  pub keys : List ℕ
  pub star : ℕ → ℕ
  pub numbered : IsNumbered K keys (made c.rows) star
  pub counted : births ≡ length keys
  pub relinked : IsRelinked hook c births NoDart (Becomes star) next

-- with two new darts for each dart of K too many would have been made
abbrev pub IsTooManyTwice : Content → (ℕ → Type 0) → Type 0
IsTooManyTwice c K = (count : ℕ) × HasCount K count × (made_max < made c.rows + (count + count))

-- The content after edges were hung on the darts of K: each gets two new darts, where its edge begins and where it ends,
-- numbered on from those that were made, all begins first, in the order of the darts of K, and then the ends in the same
-- order; the links are as Becomes tells of the new darts, and the values are carried.
pub record IsHungWith (hook : Hook) (c : Content) (K : ℕ → Type 0) (Becomes : (ℕ → ℕ) → (ℕ → ℕ) → Links → Type 0) (births : ℕ) (next : Content) : Type 0 where
  pub keys : List ℕ
  pub star : ℕ → ℕ
  pub tip : ℕ → ℕ
  pub begins : IsNumbered K keys (made c.rows) star
  pub ends : IsNumbered K keys (made c.rows + length keys) tip
  pub counted : births ≡ length keys + length keys
  pub relinked : IsRelinked hook c births NoDart (Becomes star tip) next
