use Rattle.std.proofs.Common.{◌≡◌, ◌⊎◌, ◌+◌, [], length, drop}
use Rattle.label_laws.specs.Contents.{all_rules}
use Rattle.valued_map.specs.Ways.{in_turn, rules_along}
use Rattle.valued_map.proofs.restore.rules_along.Given as goal

abbrev pub invariant-loop-passed : goal.invariant-loop-passed
invariant-loop-passed l =
    ((l.after ≡ []) ⊎ (length l.after ≡ l.dimension + 1))
    × (rules_along l.way (drop l.passed (in_turn l.way l.steps)) (all_rules l.dimension l.after) ≡ rules_along l.way (in_turn l.way l.steps) (all_rules l.dimension l.rules))
