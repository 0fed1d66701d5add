use Rattle.std.proofs.Common.{sym, ◌∙◌}
use Rattle.label_laws.proofs.Showing.{value-shown}
use Rattle.valued_map.proofs.map.ValuedMap.value.Goals as goal

pub returns : goal.returns
returns g c =
    rw (← c.self.view_is)
    (c.stored_value.ensures ∙ sym (value-shown g.K.Kind.kind g.row.DIM c.self.inside.links.rows c.self.inside.labels c.self.inside.pool c.self.inside.rules c.self.invariant c.args.dim c.args.dart))
