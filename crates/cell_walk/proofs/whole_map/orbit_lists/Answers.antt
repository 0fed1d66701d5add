use Rattle.std.proofs.Common.{Contains, arith}
use Rattle.map_defs.specs.Cells.{Leads}
use Rattle.map_defs.specs.Rows.{links_of, IsLive}
use Rattle.cell_walk.proofs.SurveyFacts.{surveyed-all}
use Rattle.cell_walk.proofs.RowSteps.{rows-walkable, live-made}
use Rattle.cell_walk.proofs.whole_map.orbit_lists.Goals as goal

pub returns-clause-members : goal.returns-clause-members
returns-clause-members g c =
    surveyed-all (Leads (links_of c.args.links.now.rows) (Contains c.args.words.now)) (IsLive c.args.links.now.rows)
    (rows-walkable g.K.Kind.kind g.row.DIM c.args.links.now.rows (Contains c.args.words.now) c.made-made.ensures.sound c.requires.turns)
    c.loop-number.number c.loop-number.found c.loop-number.least.items
    (λ d live. omega (arith, live-made c.args.links.now.rows d live, c.made-made.ensures.made)) c.loop-number.invariant.surveyed
