-- Boundaries and folds at single darts.
use Rattle.std.specs.Prelude.{ℕ, ◌≤◌}
use Rattle.map_defs.specs.Links.{Links}
use Rattle.half_defs.specs.Orientation.{IsFolded}

-- i is the least link of d that leads where link 0 leads
pub record IsLeastFold (n : ℕ) (Live : ℕ → Type 0) (L : Links) (d i : ℕ) : Type 0 where
  pub folded : IsFolded n Live L d i
  pub least : (j : ℕ) → IsFolded n Live L d j → i ≤ j
