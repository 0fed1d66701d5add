-- How an arena keeps its rows: in a slab, where the row of dart d has the key d - 1 and beside it stands which darts live,
-- until it keeps the keys of darts, so that the rows of dead darts are used again. Source: this project's.
use Rattle.std.specs.Prelude.{ℕ, zero, suc, ◌≡◌, ◌≢◌, ◌+◌, ◌*◌, ◌^◌, ◌<◌, ◌≤◌, Bool, true, false, cond, List, [], ◌∷◌, length, map, filter, Option, Some, None, is_some, IsSome, slice_index_or, slice_set, option_map, reverse, vec_capacity}
use Rattle.map_defs.specs.Rows.{made_max}
use Rattle.map_defs.specs.Edits.{free_row}
use Rattle.slab.specs.Slab.{Slab, get, slab_len}
use Rattle.dart_arena.specs.declared.places.Places.{Places}

-- The keys of the darts from a number on, each one more than that of the slab, where the list of tests says who lives. Who
-- does not has key 0.
abbrev pub keys_from : ℕ → List Bool → List ℕ
keys_from before [] = []
keys_from before (lives ∷ rest) = cond lives (suc before) 0 ∷ keys_from (suc before) rest

-- no keys are kept
abbrev pub is_in_order : Places → Bool
is_in_order places = places.in_order

abbrev pub keys_of : Places → List ℕ
keys_of places = cond places.in_order (keys_from 0 places.live.items) places.keys.items

-- so many places need no further memory
abbrev pub places_capacity : Places → ℕ
places_capacity places = cond places.in_order (vec_capacity places.live) (vec_capacity places.keys)

abbrev pub key_at : List ℕ → ℕ → ℕ
key_at keys place = slice_index_or keys place 0

-- the row under a key
abbrev pub row_under : Slab (List ℕ) → ℕ → Option (List ℕ)
row_under slab zero = None
row_under slab (suc key) = get slab key

-- the rows of the darts with these keys
abbrev pub rows_under : Slab (List ℕ) → List ℕ → List (Option (List ℕ))
rows_under slab keys = map (row_under slab) keys

-- the slab after a change of the row under a key, if it is one
abbrev pub with_row : Slab (List ℕ) → ℕ → (List ℕ → List ℕ) → Slab (List ℕ)
with_row slab zero change = slab
with_row slab (suc key) change = record slab { slots = slice_set slab.slots key (option_map change (get slab key)) }

-- The rows of a slab have its first keys, none left out.
pub record AreFirst (slab : Slab (List ℕ)) : Type 0 where
  pub there : (key : ℕ) → key < slab_len slab → IsSome (get slab key)
  pub past : (key : ℕ) → slab_len slab ≤ key → get slab key ≡ None

-- Beside the rows of live darts stand rows of zeros alone: those of dead darts, and of darts that are to come.
abbrev pub AreClear : ℕ → Slab (List ℕ) → List ℕ → Type 0
AreClear dim slab keys = (place : ℕ) → place < slab_len slab → key_at keys place ≡ 0 → get slab place ≡ Some (free_row dim)

-- What the parts of an arena keep: so many rows live, and rows are there for the darts made and for so many births.
pub record IsKept (dim : ℕ) (slab : Slab (List ℕ)) (keys : List ℕ) (count spare room : ℕ) : Type 0 where
  pub few : length keys ≤ made_max
  pub counted : count ≡ length (filter is_some (rows_under slab keys))
  pub first : AreFirst slab
  pub clear : AreClear dim slab keys
  pub within : length keys + spare ≤ slab_len slab
  pub shared : count + room ≡ length keys + spare
  pub bound : count + room ≤ 2 * made_max
  pub holds : slab_len slab ≤ slab.capacity

-- how many keys there are
abbrev pub count_keys : List ℕ → ℕ
count_keys [] = 0
count_keys (zero ∷ rest) = count_keys rest
count_keys (suc key ∷ rest) = suc (count_keys rest)

-- What the parts of an arena keep once it keeps keys: each live dart has a row of its own, and the slab has no others. A key
-- fits into 32 bits.
pub record IsFreed (slab : Slab (List ℕ)) (keys : List ℕ) (count room : ℕ) : Type 0 where
  pub few : length keys ≤ made_max
  pub counted : count ≡ length (filter is_some (rows_under slab keys))
  pub there : (place : ℕ) → key_at keys place ≢ 0 → IsSome (row_under slab (key_at keys place))
  pub once : (p q : ℕ) → key_at keys p ≢ 0 → key_at keys q ≡ key_at keys p → q ≡ p
  pub all : slab_len slab ≡ count
  pub fits : count + room ≤ slab.capacity
  pub bound : count + room ≤ 2 * made_max
  pub narrow : slab.capacity < 2 ^ 32

-- What the parts of an arena keep, with or without keys.
abbrev pub IsArranged : Bool → ℕ → Slab (List ℕ) → List ℕ → ℕ → ℕ → ℕ → Type 0
IsArranged true dim slab keys count spare room = IsKept dim slab keys count spare room
IsArranged false dim slab keys count spare room = IsFreed slab keys count room

-- the new slab has a row under one key more, or less
pub record IsTurned (old new : Slab (List ℕ)) (key : ℕ) : Type 0 where
  pub own : key ≢ 0
  pub others : (other : ℕ) → other ≢ key → row_under new other ≡ row_under old other
  pub capacity : new.capacity ≡ old.capacity

-- A row of zeros is taken for the dart at a place: the one that stands in its place, or a new one.
abbrev pub IsTaken : Bool → ℕ → Slab (List ℕ) → Slab (List ℕ) → ℕ → ℕ → Type 0
IsTaken true dim old new place key = (key ≡ place + 1) × (new ≡ old)
IsTaken false dim old new place key =
    IsTurned old new key × (row_under old key ≡ None) × (row_under new key ≡ Some (free_row dim)) × (slab_len new ≡ slab_len old + 1)
    × (key ≤ old.capacity)

-- A row is given back: it becomes zeros, or it is gone.
abbrev pub IsGiven : Bool → ℕ → Slab (List ℕ) → Slab (List ℕ) → ℕ → Type 0
IsGiven true dim old new key = new ≡ with_row old key (λ row. free_row dim)
IsGiven false dim old new key = IsTurned old new key × (row_under new key ≡ None) × (slab_len new + 1 ≡ slab_len old)

-- the rows, of which the first ones are turned round
abbrev pub first_turned : ℕ → List (Option (List ℕ)) → List (Option (List ℕ))
first_turned zero rows = rows
first_turned (suc n) [] = []
first_turned (suc n) (row ∷ rows) = option_map reverse row ∷ first_turned n rows
