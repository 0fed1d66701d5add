-- What a contract sees of a pool: the values that its ids stand for, and how many more it can take.
use Rattle.std.specs.Prelude.{ℕ, ◌≡◌, ◌≢◌, List, length, filter, Option, Some, None, is_some, IsSome, slice_index_or}
use Rattle.map_defs.specs.Values.{Value, IsRepresentable}

-- The value of id n stands at place n, where n is live. Place 0 is no id's. So many new ids as `spare` can be given
-- without memory.
pub record Store : Type 0 where
  pub slots : List (Option Value)
  pub spare : ℕ

-- the value that an id stands for, if it is live
abbrev pub value_of : Store → ℕ → Option Value
value_of s id = slice_index_or s.slots id None

abbrev pub IsHeld : Store → ℕ → Type 0
IsHeld s id = IsSome (value_of s id)

-- the values that ids stand for are within 64 bits
abbrev pub HasRepresentable : Store → Type 0
HasRepresentable s = (id : ℕ) (value : Value) → value_of s id ≡ Some value → IsRepresentable value

-- how many ids are live
abbrev pub live_count : Store → ℕ
live_count s = length (filter is_some s.slots)

-- the id stands for this value now, or for none; every other id stands for what it stood for
pub record IsPut (old new : Store) (id : ℕ) (value : Option Value) : Type 0 where
  pub here : value_of new id ≡ value
  pub others : (other : ℕ) → other ≢ id → value_of new other ≡ value_of old other
