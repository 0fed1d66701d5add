use Rattle.std.proofs.Common.{◌≡◌, take}
use Rattle.list_text.proofs.values.narrow_rules.Given as goal

abbrev pub invariant-loop-rule : goal.invariant-loop-rule
invariant-loop-rule l = l.narrow.items ≡ take l.rule-index l.rules
