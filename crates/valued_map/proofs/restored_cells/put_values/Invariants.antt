use Rattle.std.proofs.Common.{ℕ, ◌≡◌, drop, Option}
use Rattle.std.specs.Prelude.{unwrap_or}
use Rattle.std.specs.Ordering.{nat_cmp}
use Rattle.std.specs.BTreeMap as tree
use Rattle.map_defs.specs.Values.{Value}
use Rattle.valued_map.specs.Ways.{value_among}
use Rattle.valued_map.proofs.restored_cells.put_values.Given as goal

abbrev pub invariant-loop-change : goal.invariant-loop-change
invariant-loop-change l = (d : ℕ) (value : Option Value)
    → value_among l.way (drop l.change-index l.changes) l.dim d (unwrap_or (tree.get nat_cmp l.values d) value) ≡ value_among l.way l.changes l.dim d (unwrap_or (tree.get nat_cmp l.fn.values d) value)
