use Rattle.cell_edit.specs.Stars.{Stars}
use Rattle.map_close.specs.Boundary.{keys_from}
use Rattle.map_close.specs.NewLinks.{IsClosedBelow}
use Rattle.map_close.proofs.closing.closing_edit.Given as goal

abbrev pub invariant-loop-number : goal.invariant-loop-number
invariant-loop-number g l =
    let stars : Stars = record { keys = keys_from 0 l.stars-inside.numbers.items; made = l.stars-inside.made } in
    IsClosedBelow g.K.Kind.kind g.row.DIM l.links.rows l.link stars l.number l.born
