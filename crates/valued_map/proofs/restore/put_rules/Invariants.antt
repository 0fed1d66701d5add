use Rattle.std.proofs.Common.{◌≡◌, drop, length}
use Rattle.valued_map.specs.Ways.{in_turn, with_rules}
use Rattle.valued_map.proofs.restore.put_rules.Given as goal

abbrev pub invariant-loop-passed : goal.invariant-loop-passed
invariant-loop-passed l =
    (with_rules l.way (drop l.passed (in_turn l.way l.changes)) l.rules-inside.rules.items ≡ with_rules l.way (in_turn l.way l.changes) l.fn.rules)
    × (length l.rules-inside.rules.items ≡ length l.fn.rules)
