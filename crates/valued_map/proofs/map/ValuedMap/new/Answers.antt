use Rattle.std.proofs.Common.{rules}
use Rattle.label_laws.proofs.Showing.{begun-content, kept-shown}
use Rattle.valued_map.proofs.map.ValuedMap.new.Goals as goal

pub returns-clause-empty : goal.returns-clause-empty
returns-clause-empty g c =
    rw (c.new.ensures.rows, c.new-4.ensures.items) (begun-content g.K.Kind.kind g.row.DIM c.new-2.result c.new-3.result c.new-2.ensures.ids)

pub returns-clause-lawful : goal.returns-clause-lawful
returns-clause-lawful g c = kept-shown g.K.Kind.kind g.row.DIM c.new.result.rows c.new-2.result c.new-3.result c.new-4.result.items (search rules)
