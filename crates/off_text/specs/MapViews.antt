-- What the rows and refusals of the code stand for, and the points that places tell.
use Rattle.std.specs.Prelude.{ℕ, ◌<◌, ◌==◌, if◌then◌else◌, List, [], ◌∷◌, length, slice_index_or, Contains, Option, Some, None}
use Rattle.map_defs.specs.Values.{Value, Place}
use Rattle.map_defs.specs.Refusal.{Refusal}
use Rattle.map_defs.specs.OffOfMap as maps
use Rattle.map_kind.specs.declared.refusal.Refused.{Refused}
use Rattle.map_kind.specs.declared.refusal.Refused.TheVariants.{Line, NoMemory}
use Rattle.map_kind.specs.Refusals.{meaning}
use Rattle.off_text.specs.Meanings.{lists_of}
use Rattle.off_text.specs.declared.of_map.OffRows.{OffRows}

-- the point at a dart, if one of these places is there
abbrev pub placed : List Place → ℕ → Option Value
placed [] d = None
placed (place ∷ places) d = if place.dart == d then Some place.value else placed places d

-- rows without where they lie in memory
abbrev pub off_view : OffRows → maps.OffRows
off_view off = record { points = off.points.items; faces = lists_of off.faces.items; edges = off.edges }

-- what is known of a refusal; want of memory is free
abbrev pub IfLine : Refused → (Refusal → Type 0) → Type 0
IfLine (Line refusal) Why = Why (meaning refusal)
IfLine NoMemory Why = Unit {0}

-- x stands in the list at this place
abbrev pub IsPlaced : List (List ℕ) → ℕ → ℕ → Type 0
IsPlaced lists x place = (place < length lists) × Contains (slice_index_or lists place []) x
