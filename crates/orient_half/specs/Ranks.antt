-- The rank of a dart among others.
use Rattle.std.specs.Prelude.{ℕ, ◌≡◌, ◌≢◌, ◌≤◌, List, length}
use Rattle.half_defs.specs.Halves.{origin}

-- r is the rank of dart d, or 0 if d is none of the origins
pub record IsRank (origins : List ℕ) (d r : ℕ) : Type 0 where
  pub within : r ≤ length origins
  pub found : (s : ℕ) → s ≤ length origins → origin origins s ≡ d → s ≡ r
  pub has : r ≢ 0 → origin origins r ≡ d
