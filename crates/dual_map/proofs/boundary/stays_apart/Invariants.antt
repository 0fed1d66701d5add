use Rattle.std.proofs.Common.{ℕ, ◌≢◌, ◌≤◌, ◌<◌}
use Rattle.map_defs.specs.Rows.{links_of}
use Rattle.link_rows.specs.DualLinks.{dual_link}
use Rattle.dual_map.proofs.boundary.stays_apart.Given as goal

abbrev pub invariant-loop-link : goal.invariant-loop-link
invariant-loop-link g l = (i : ℕ) → i < l.link → 2 ≤ i → dual_link g.K.Kind.kind g.row.DIM (links_of l.links.rows) i l.dart ≢ l.dart
