use Rattle.std.specs.Prelude.{unwrap_or}
use Rattle.std.specs.Ordering.{nat_cmp}
use Rattle.std.specs.BTreeMap as tree
use Rattle.label_laws.specs.Stored.{stored_value}
use Rattle.valued_map.specs.Undoing.{AreGivenValues}
use Rattle.valued_map.proofs.restored_cells.give_values.Given as goal

abbrev pub invariant-loop-index : goal.invariant-loop-index
invariant-loop-index g l = AreGivenValues (λ d. unwrap_or (tree.get nat_cmp l.values d) (stored_value l.pool l.labels l.dim d)) l.index l.fn.cells.items l.cells.items
