use Rattle.std.proofs.Common.{reverse}
use Rattle.valued_map.specs.Told.{AreRuleChanges}
use Rattle.valued_map.proofs.dual.turned_rule_changes.Given as goal

abbrev pub invariant-loop-dim : goal.invariant-loop-dim
invariant-loop-dim l = AreRuleChanges l.dim l.rules (reverse l.rules) l.changes.items
