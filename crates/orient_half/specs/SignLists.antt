-- Lists of the signs of the darts that a search reached.
use Rattle.std.specs.Prelude.{ℕ, ◌≡◌, ◌<◌, ◌↔◌, List, Contains, Some}
use Rattle.std.specs.List.Sorted.{IsStrictlyIncreasing}
use Rattle.half_defs.specs.Orientation.{Sign, darts_of}
use Rattle.orient_half.specs.Marks.{Marks, sign_at}

-- the signs of the darts below next that were reached, ascending
pub record IsListed (marks : Marks) (next : ℕ) (signs : List Sign) : Type 0 where
  pub ascending : IsStrictlyIncreasing (darts_of signs)
  pub members : (sign : Sign) → Contains signs sign ↔ ((sign.dart < next) × (sign_at marks sign.dart ≡ Some sign.positive))
