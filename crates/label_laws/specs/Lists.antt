-- The values that are listed so far.
use Rattle.std.specs.Prelude.{ℕ, ◌≡◌, ◌<◌, ◌↔◌, List, [], ◌∷◌, length, Option, Some, None, Contains, slice_index_or}
use Rattle.map_defs.specs.Kind.{Kind}
use Rattle.map_defs.specs.Rows.{Rows, IsLive, links_of}
use Rattle.map_defs.specs.Cells.{NamesCell}
use Rattle.map_defs.specs.Values.{Value}
use Rattle.machine_defs.specs.Listing.{ListValue, IsBefore}
use Rattle.store_defs.specs.Stores.{Store}
use Rattle.store_defs.specs.Labelings.{Labeling}
use Rattle.label_laws.specs.Stored.{stored_value}

-- the line of a cell, if it has a value
abbrev pub listed : ℕ → ℕ → Option Value → List ListValue
listed i d None = []
listed i d (Some v) = record { dim = i; dart = d; value = v } ∷ []

-- d is live, and the least dart of its i-cell
abbrev pub IsNamed : Kind → Rows → ℕ → ℕ → Type 0
IsNamed k rows i d = IsLive rows d × NamesCell k (links_of rows) i d

-- The values of the places among these are listed in order, by dimension and dart.
pub record AreListed (labels : Labeling) (pool : Store) (Among : ℕ → ℕ → Type 0) (values : List ListValue) : Type 0 where
  pub members : (v : ListValue) → Contains values v ↔ (Among v.dim v.dart × (stored_value pool labels v.dim v.dart ≡ Some v.value))
  pub ordered : (j k : ℕ) (d : ListValue) → j < k → k < length values → IsBefore (slice_index_or values j d) (slice_index_or values k d)
