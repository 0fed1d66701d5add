use Rattle.std.proofs.Common.{ℕ, ◌≤◌}
use Rattle.map_defs.specs.Rows.{links_of, IsLive}
use Rattle.half_defs.specs.Orientation.{IsFolded}
use Rattle.orient_half.proofs.boundary.first_fold.Given as goal

abbrev pub invariant-loop-number : goal.invariant-loop-number
invariant-loop-number g l = (d i : ℕ) → d ≤ l.number → IsFolded g.row.DIM (IsLive l.links.rows) (links_of l.links.rows) d i → ⊥
