use Rattle.std.proofs.Common.{arith}
use Rattle.map_defs.specs.Rows.{Rows}
use Rattle.link_rows.proofs.TurnedDarts.{dualized, dualized-sound}
use Rattle.link_rows.proofs.links.Links+Beta+DIM.dualize.Goals as goal

pub returns-clause-dual : goal.returns-clause-dual
returns-clause-dual g c =
    let old : Rows = c.self.inside.rows.rows in
    let laws = rw (← c.self.view_is) at c.requires.laws in
    let can = rw (← c.self.view_is) at c.requires.dualable in
    rw (← c.self.view_is) (dualized g.row.DIM old _ c.self.invariant.3 c.self.invariant.2 laws can c.dualize.ensures.links c.dualize.ensures.darts)

pub returns-clause-sound : goal.returns-clause-sound
returns-clause-sound g c =
    let old : Rows = c.self.inside.rows.rows in
    let laws = rw (← c.self.view_is) at c.requires.laws in
    let can = rw (← c.self.view_is) at c.requires.dualable in
    dualized-sound g.row.DIM old _ c.self.invariant.3 c.self.invariant.2 laws can c.dualize.ensures.links c.dualize.ensures.darts

pub invariant_of-self : goal.invariant_of-self
invariant_of-self g c = (
  c.self.invariant.0,
  omega (arith, c.dualize.ensures.darts.length, c.self.invariant.1),
  returns-clause-sound g c,
  c.self.invariant.3,
)
