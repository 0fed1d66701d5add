use Rattle.std.proofs.Common.{ℕ, ◌≤◌}
use Rattle.map_defs.specs.Rows.{links_of, IsLive}
use Rattle.map_defs.specs.Dual.{IsDualable}
use Rattle.dual_map.proofs.boundary.dualable.Given as goal

abbrev pub invariant-loop-number : goal.invariant-loop-number
invariant-loop-number g l = IsDualable g.K.Kind.kind g.row.DIM (links_of l.links.rows) (λ (d : ℕ). IsLive l.links.rows d × (d ≤ l.number))
