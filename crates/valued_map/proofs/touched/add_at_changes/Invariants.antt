use Rattle.std.proofs.Common.{take, Contains}
use Rattle.map_defs.specs.Edits.{Change}
use Rattle.valued_map.specs.Changing.{AreAdded, IsUnsettledOf}
use Rattle.valued_map.proofs.touched.add_at_changes.Given as goal

abbrev pub invariant-loop-change : goal.invariant-loop-change
invariant-loop-change g l =
    AreAdded l.links.rows (λ x. (c : Change) × Contains (take l.change-index l.changes) c × IsUnsettledOf g.K.Kind.kind g.row.DIM l.edit l.links.rows l.dim l.labels c x)
    l.fn.touched.items l.touched.items
