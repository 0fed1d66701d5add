-- How many darts can live without further memory, after an edit.
use Rattle.std.proofs.Common.{◌≡◌, ℕ, ◌+◌, ◌-◌, ◌≤◌, length, arith}
use Rattle.map_defs.specs.Kind.{Kind}
use Rattle.map_defs.specs.Rows.{Rows, made, live_count}
use Rattle.map_defs.specs.Edits.{Edit, IsLed}
use Rattle.valued_map.proofs.RowCounts.{count-after}
use Rattle.valued_map.proofs.Reversing.{made-after}

module _ (k : Kind) (n : ℕ) (e : Edit) (old new : Rows) (led : IsLed k n e old new) (before after : ℕ) (is : after ≡ before - e.births + length e.deaths) where
  -- those that ended leave their places, and those that were born take some
  pub places-after : live_count old + before ≤ live_count new + after
  places-after = let counts = count-after k n e old new led in omega arith

  -- there were places for those that were born
  pub room-after : live_count old + (made new - made old) ≤ live_count new + after
  room-after = let counts = count-after k n e old new led in let grown = made-after k n e old new led in omega arith
