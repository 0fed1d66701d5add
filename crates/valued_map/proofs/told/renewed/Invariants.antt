use Rattle.std.proofs.Common.{ℕ, ◌⊎◌, ◌↔◌, ◌<◌, Contains}
use Rattle.valued_map.proofs.told.renewed.Given as goal

-- the darts that end, and those that were added
abbrev pub invariant-loop-number : goal.invariant-loop-number
invariant-loop-number l = (l.older < l.number) × ((d : ℕ) → Contains l.darts.items d ↔ (Contains l.edit.deaths d ⊎ ((l.older < d) × (d < l.number))))
