use Rattle.label_laws.proofs.Showing.{kept-shown}
use Rattle.valued_map.proofs.map.ValuedMap.links.Goals as goal

pub returns-clause-lawful : goal.returns-clause-lawful
returns-clause-lawful g c =
    rw (← c.self.view_is) (kept-shown g.K.Kind.kind g.row.DIM c.self.inside.links.rows c.self.inside.labels c.self.inside.pool c.self.inside.rules c.self.invariant)
