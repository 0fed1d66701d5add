-- What the type of a pool keeps.
use Rattle.std.specs.Prelude.{ℕ, suc, Bool, ◌≡◌, ◌≢◌, ◌+◌, ◌≤◌, ◌<◌, ◌^◌, pos, List, [], ◌∷◌, Option, Some, None, cond, length, filter, is_some, slice_index, slice_index_or, vec_capacity, All}
use Rattle.map_defs.specs.Values.{Value, IsRepresentable}
use Rattle.attr_pool.specs.declared.pool.Pool.TheInside.{Inside}

-- what stands at each place: the value, if the place is live
abbrev pub slots_of : List Value → List Bool → List (Option Value)
slots_of [] lives = []
slots_of (value ∷ values) [] = []
slots_of (value ∷ values) (live ∷ lives) = cond live (Some value) None ∷ slots_of values lives

-- the free places have no value, and each stands once
pub record AreFree (slots : List (Option Value)) (free : List ℕ) : Type 0 where
  pub bare : (k : ℕ) → k < length free → slice_index_or slots (slice_index free k) None ≡ None
  pub within : (k : ℕ) → k < length free → slice_index free k < length slots
  pub once : (j k : ℕ) → j < k → k < length free → slice_index free j ≢ slice_index free k

abbrev pub no_value : Value
no_value = record { a = pos 0; b = pos 0; c = pos 0 }

-- the first free place is known, and at each free place the number of the next is written; 0 where there is no further one
pub record AreLinked (values : List Value) (first : ℕ) (free : List ℕ) : Type 0 where
  pub begun : first ≡ slice_index free 0
  pub next : (k : ℕ) → k < length free → (slice_index_or values (slice_index free k) no_value).a ≡ pos (slice_index free (suc k))

-- the two lists, the first free place and the count of the live ones belong together; the places that are not live are
-- told, the one that came free last first
pub record ArePoolParts (values : List Value) (lives : List Bool) (first live : ℕ) (places : List ℕ) : Type 0 where
  pub paired : length lives ≡ length values
  pub free : AreFree (slots_of values lives) places
  pub linked : AreLinked values first places
  pub count : live ≡ length (filter is_some (slots_of values lives))
  -- a place that is not free is live
  pub all : live + length places ≡ length values

pub record IsPool (pool : Inside) : Type 0 where
  pub places : List ℕ
  pub kept : ArePoolParts pool.values.items pool.lives.items pool.free pool.live places
  -- all that stands in the list of values is within 64 bits
  pub held : All IsRepresentable pool.values.items
  -- both lists have room for so many ids
  pub placed : length pool.values.items ≤ pool.room
  pub values_room : pool.room ≤ vec_capacity pool.values
  pub lives_room : pool.room ≤ vec_capacity pool.lives
  pub few : pool.room < 2 ^ 32
