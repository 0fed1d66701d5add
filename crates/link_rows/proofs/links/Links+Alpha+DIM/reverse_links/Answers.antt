use Rattle.std.proofs.Common.{option_map, reverse, arith}
use Rattle.std.proofs.lemmas.List.{length-map}
use Rattle.map_defs.specs.Rows.{Rows}
use Rattle.link_rows.proofs.ReversedLinks.{turned-links, turned-sound}
use Rattle.link_rows.proofs.links.Links+Alpha+DIM.reverse_links.Goals as goal

pub invariant_of-self : goal.invariant_of-self
invariant_of-self g c =
    let rows : Rows = c.self.inside.rows.rows in
    rw c.reverse_rows.ensures.rows (
      c.self.invariant.0,
      omega (arith, length-map rows (option_map reverse), c.self.invariant.1),
      turned-sound g.row.DIM rows c.self.invariant.2,
      c.self.invariant.3,
    )

pub returns-clause-links : goal.returns-clause-links
returns-clause-links g c =
    let rows : Rows = c.self.inside.rows.rows in
    rw (← c.self.view_is, c.reverse_rows.ensures.rows) (turned-links g.row.DIM rows c.self.invariant.2.wide)

pub returns-clause-sound : goal.returns-clause-sound
returns-clause-sound g c = rw c.reverse_rows.ensures.rows (turned-sound g.row.DIM c.self.inside.rows.rows c.self.invariant.2)
