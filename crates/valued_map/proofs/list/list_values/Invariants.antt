use Rattle.std.proofs.Common.{◌<◌}
use Rattle.label_laws.specs.Lists.{AreListed, IsNamed}
use Rattle.valued_map.proofs.list.list_values.Given as goal

abbrev pub invariant-loop-dim : goal.invariant-loop-dim
invariant-loop-dim g l = AreListed l.labels l.pool (λ i d. (i < l.dim) × IsNamed g.K.Kind.kind l.links.rows i d) l.values.items
