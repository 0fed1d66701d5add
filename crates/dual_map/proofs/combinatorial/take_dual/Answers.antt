use Rattle.map_defs.specs.Kind.{beta}
use Rattle.map_defs.specs.Rows.{links_of}
use Rattle.dual_laws.proofs.DualLaws.{dual_laws}
use Rattle.dual_map.proofs.combinatorial.take_dual.Goals as goal

pub returns-clause-laws : goal.returns-clause-laws
returns-clause-laws g c =
    dual_laws g.row.DIM c.args.links.now.rows c.dualize.ensures.low beta (links_of c.dualize.new.self.rows) c.requires
    (c.dualable.ensures.0 c.if-not-dualable.false) c.dualize.ensures.dual
