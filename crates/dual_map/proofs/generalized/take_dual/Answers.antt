use Rattle.map_defs.specs.Kind.{alpha}
use Rattle.map_defs.specs.Rows.{Rows, links_of}
use Rattle.link_laws.proofs.RowFacts.{rows_dimension}
use Rattle.dual_laws.proofs.DualLaws.{dual_laws}
use Rattle.dual_map.proofs.generalized.take_dual.Goals as goal

pub returns-clause-laws : goal.returns-clause-laws
returns-clause-laws g c =
    let new : Rows = c.reverse_links.new.self.rows in
    dual_laws g.row.DIM c.args.links.now.rows c.reverse_links.ensures.low alpha (links_of new) c.requires (c.dualable.ensures.0 c.if-not-dualable.false)
    (record { reversed = c.reverse_links.ensures.links; above = rows_dimension g.row.DIM new c.reverse_links.ensures.sound.wide })
