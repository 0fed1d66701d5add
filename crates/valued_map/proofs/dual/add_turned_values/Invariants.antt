use Rattle.label_laws.specs.Stored.{stored_value}
use Rattle.valued_map.specs.Told.{AreDiffering, turned_value}
use Rattle.valued_map.proofs.ListedValues.{IsTurnedPlace}
use Rattle.valued_map.proofs.dual.add_turned_values.Given as goal

abbrev pub invariant-loop-number : goal.invariant-loop-number
invariant-loop-number g l = AreDiffering (IsTurnedPlace l.dim l.made l.number) (stored_value l.pool l.labels) (turned_value g.row.DIM l.labels l.pool) l.values.items
