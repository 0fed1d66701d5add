use Rattle.std.proofs.Common.{ℕ, ◌≡◌, drop, Option}
use Rattle.std.specs.Prelude.{unwrap_or}
use Rattle.std.specs.Ordering.{nat_cmp}
use Rattle.std.specs.BTreeMap as tree
use Rattle.map_defs.specs.Values.{Value}
use Rattle.valued_map.specs.Ways.{in_turn, value_along}
use Rattle.valued_map.proofs.restored_cells.values_along.Given as goal

abbrev pub invariant-loop-passed : goal.invariant-loop-passed
invariant-loop-passed l = (d : ℕ) (value : Option Value)
    → value_along l.way (drop l.passed (in_turn l.way l.steps)) l.dim d (unwrap_or (tree.get nat_cmp l.values d) value) ≡ value_along l.way (in_turn l.way l.steps) l.dim d value
