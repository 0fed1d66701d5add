use Rattle.std.proofs.Common.{◌-◌, ◌<◌, map}
use Rattle.std.specs.Prelude.{IsSome}
use Rattle.map_defs.specs.Rows.{made}
use Rattle.store_defs.specs.Groups.{rule_at}
use Rattle.label_laws.specs.Touching.{AreGrafted}
use Rattle.valued_map.proofs.Rerouting.{AreChangedBelow}
use Rattle.valued_map.proofs.changed.changed_darts.Given as goal

abbrev pub invariant-loop-dim : goal.invariant-loop-dim
invariant-loop-dim g l =
    AreGrafted g.K.Kind.kind l.links.rows (made l.links.rows - l.edit.births) (λ i. (i < l.dim) × IsSome (rule_at l.rules i)) l.fn.labels l.labels
    × AreChangedBelow g.K.Kind.kind g.row.DIM l.edit l.links.rows l.rules l.kept l.labels l.dim (map (λ darts. darts.items) l.by_dim.items)
