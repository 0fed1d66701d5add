use Rattle.list_text.proofs.ValuesMeant.{rules-more}
use Rattle.list_text.proofs.values.rules_of_values.Goals as goal

pub loop-next-preserved : goal.loop-next-preserved
loop-next-preserved c = rw (rules-more c.loop-next.next c.args.values.now, ← c.loop-next.invariant) c.in_ok-push_rule.ensures
