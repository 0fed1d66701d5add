use Rattle.std.proofs.Common.{ℕ, ◌<◌}
use Rattle.map_defs.specs.Rows.{links_of, IsLive}
use Rattle.half_defs.specs.Orientation.{IsFolded}
use Rattle.orient_half.proofs.boundary.folded_link.Given as goal

abbrev pub invariant-loop-link : goal.invariant-loop-link
invariant-loop-link g l = (i : ℕ) → i < l.link → IsFolded g.row.DIM (IsLive l.fn.links.rows) (links_of l.fn.links.rows) l.fn.dart i → ⊥
