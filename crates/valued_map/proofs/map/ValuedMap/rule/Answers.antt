use Rattle.std.proofs.Common.{sym, ◌∙◌}
use Rattle.label_laws.proofs.Showing.{rule-shown}
use Rattle.valued_map.proofs.map.ValuedMap.rule.Goals as goal

pub returns : goal.returns
returns g c = rw (← c.self.view_is) (c.rule_of.ensures ∙ sym (rule-shown g.row.DIM c.args.dim c.self.inside.rules))
