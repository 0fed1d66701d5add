use Rattle.label_laws.specs.Stored.{stored_value}
use Rattle.valued_map.specs.Told.{AreDiffering, IsPlaceBelow, turned_value}
use Rattle.valued_map.proofs.dual.turned_values.Given as goal

abbrev pub invariant-loop-dim : goal.invariant-loop-dim
invariant-loop-dim g l = AreDiffering (IsPlaceBelow l.dim l.made) (stored_value l.pool l.labels) (turned_value g.row.DIM l.labels l.pool) l.values.items
