-- The 0-cells of places as groups.
use Rattle.std.specs.Prelude.{ℕ, List, [], length, map, Some, None, slice_index_or}
use Rattle.std.specs.List.{range_with_len}
use Rattle.map_defs.specs.Values.{Place}
use Rattle.map_defs.specs.Carry.{known}
use Rattle.store_defs.specs.Groups.{Group}

-- a place of no dart
abbrev pub no_place : Place
no_place = record { dart = 0; value = known None }

-- the darts of the cell of a place, with the value of the place
abbrev pub placed_group : List Place → List (List ℕ) → ℕ → Group
placed_group places cells n = record { dim = 0; darts = slice_index_or cells n []; value = Some (slice_index_or places n no_place).value }

abbrev pub placed_groups : List Place → List (List ℕ) → List Group
placed_groups places cells = map (placed_group places cells) (range_with_len 0 (length places))
