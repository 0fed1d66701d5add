-- The live darts below some number.
use Rattle.std.specs.Prelude.{ℕ, ◌≡◌, ◌<◌, ◌↔◌, List, length, take, filter, is_some, Contains}
use Rattle.std.specs.List.Sorted.{IsStrictlyIncreasing}
use Rattle.map_defs.specs.Rows.{Rows, IsLive}

-- These are the live darts below next, ascending.
pub record AreLiveBelow (rows : Rows) (next : ℕ) (darts : List ℕ) : Type 0 where
  pub ascending : IsStrictlyIncreasing darts
  pub members : (d : ℕ) → Contains darts d ↔ (IsLive rows d × (d < next))
  pub counted : length darts ≡ length (filter is_some (take next rows))
