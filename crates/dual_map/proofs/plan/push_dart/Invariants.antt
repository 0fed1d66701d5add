use Rattle.std.proofs.Common.{◌≡◌, ◌++◌}
use Rattle.std.specs.List.{flat_map, range_with_len}
use Rattle.map_defs.specs.Rows.{links_of}
use Rattle.link_rows.specs.DualLinks.{dual_link}
use Rattle.dual_map.specs.Differences.{link_changes}
use Rattle.dual_map.proofs.plan.push_dart.Given as goal

abbrev pub invariant-loop-link : goal.invariant-loop-link
invariant-loop-link g l = l.changes.items ≡ l.initial.changes.items ++ flat_map (link_changes (links_of l.links.rows) (dual_link g.K.Kind.kind g.row.DIM (links_of l.links.rows)) l.dart) (range_with_len 0 l.link)
