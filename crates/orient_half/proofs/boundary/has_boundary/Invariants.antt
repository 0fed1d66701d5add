use Rattle.std.proofs.Common.{ℕ, ◌≤◌}
use Rattle.map_defs.specs.Rows.{links_of, IsLive}
use Rattle.half_defs.specs.Orientation.{HasBoundary}
use Rattle.orient_half.proofs.boundary.has_boundary.Given as goal

abbrev pub invariant-loop-number : goal.invariant-loop-number
invariant-loop-number g l = HasBoundary g.row.DIM (λ (d : ℕ). IsLive l.links.rows d × (d ≤ l.number)) (links_of l.links.rows) → ⊥
