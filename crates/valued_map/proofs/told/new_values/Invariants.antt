use Rattle.valued_map.proofs.ListedValues.{AreRenewed}
use Rattle.label_laws.specs.Stored.{stored_value}
use Rattle.valued_map.proofs.told.new_values.Given as goal

abbrev pub invariant-loop-place : goal.invariant-loop-place
invariant-loop-place g l = AreRenewed (stored_value l.pool l.labels) l.fn.olds.items l.place l.values.items
