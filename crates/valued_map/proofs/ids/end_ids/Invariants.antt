use Rattle.std.proofs.Common.{◌<◌, Contains}
use Rattle.label_laws.specs.Changing.{AreTaken}
use Rattle.valued_map.proofs.ids.end_ids.Given as goal

abbrev pub invariant-loop-dim : goal.invariant-loop-dim
invariant-loop-dim g l = AreTaken (λ j d. (j < l.dim) × Contains l.darts d) l.fn.labels l.labels l.fn.pool l.pool
