use Rattle.std.proofs.Common.{◌≡◌}
use Rattle.map_defs.specs.Rows.{links_of}
use Rattle.link_rows.specs.DualLinks.{dual_link}
use Rattle.dual_map.specs.Differences.{map_changes}
use Rattle.dual_map.proofs.plan.dual_changes.Given as goal

abbrev pub invariant-loop-number : goal.invariant-loop-number
invariant-loop-number g l = l.changes.items ≡ map_changes g.row.DIM (links_of l.links.rows) (dual_link g.K.Kind.kind g.row.DIM (links_of l.links.rows)) l.number
