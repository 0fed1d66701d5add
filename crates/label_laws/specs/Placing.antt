-- Groups that are the 0-cells of places.
use Rattle.std.specs.Prelude.{ℕ, ◌≡◌, ◌<◌, ◌↔◌, List, length, Some, Contains, slice_index_or}
use Rattle.map_defs.specs.Kind.{Kind}
use Rattle.map_defs.specs.Links.{Links}
use Rattle.map_defs.specs.Cells.{InCell}
use Rattle.map_defs.specs.Values.{Place}
use Rattle.store_defs.specs.Groups.{Group, group_at}

-- The group is the 0-cell of the place's dart, and has the place's value.
pub record IsPlacedCell (k : Kind) (L : Links) (place : Place) (g : Group) : Type 0 where
  pub dim : g.dim ≡ 0
  pub value : g.value ≡ Some place.value
  pub members : (x : ℕ) → Contains g.darts x ↔ InCell k L 0 place.dart x

-- There is one group for each of the first places, in the same order.
pub record ArePlacedCells (k : Kind) (L : Links) (places : List Place) (below : ℕ) (groups : List Group) : Type 0 where
  pub long : length groups ≡ below
  pub each : (n : ℕ) (place : Place) → n < below → IsPlacedCell k L (slice_index_or places n place) (group_at groups n)
