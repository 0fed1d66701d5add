use Rattle.std.proofs.Common.{◌≡◌}
use Rattle.list_text.proofs.ValuesMeant.{rules_below}
use Rattle.list_text.proofs.values.rules_of_values.Given as goal

abbrev pub invariant-loop-next : goal.invariant-loop-next
invariant-loop-next l = l.rules.items ≡ rules_below l.next l.values
