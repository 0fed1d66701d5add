use Rattle.std.proofs.Common.{◌<◌, IsSome}
use Rattle.map_defs.specs.Rows.{IsLive, links_of}
use Rattle.store_defs.specs.Groups.{rule_at}
use Rattle.label_laws.specs.Stored.{stored_value}
use Rattle.label_laws.specs.Restoring.{AreRestored}
use Rattle.valued_map.specs.Ways.{in_turn, value_along, IsStepped}
use Rattle.valued_map.proofs.restored_cells.all_cells.Given as goal

abbrev pub invariant-loop-dim : goal.invariant-loop-dim
invariant-loop-dim g l =
    AreRestored g.K.Kind.kind (links_of l.links.rows) (IsLive l.links.rows) (λ i. (i < l.dim) × IsSome (rule_at l.rules i))
    (IsStepped l.way g.K.Kind.kind g.row.DIM l.links.rows l.steps) (λ i d. value_along l.way (in_turn l.way l.steps) i d (stored_value l.pool l.labels i d)) l.groups.items
