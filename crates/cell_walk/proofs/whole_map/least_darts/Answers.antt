use Rattle.std.proofs.Common.{Contains, arith}
use Rattle.map_defs.specs.Cells.{Leads}
use Rattle.map_defs.specs.Rows.{links_of, IsLive}
use Rattle.cell_walk.proofs.SurveyFacts.{surveyed-all}
use Rattle.cell_walk.proofs.RowSteps.{rows-walkable, live-made}
use Rattle.cell_walk.proofs.whole_map.least_darts.Goals as goal

pub returns-clause-members : goal.returns-clause-members
returns-clause-members g c =
    let survey = c.loop-number.invariant.1 in
    surveyed-all (Leads (links_of c.args.links.now.rows) (Contains c.args.words.now)) (IsLive c.args.links.now.rows)
    (rows-walkable g.K.Kind.kind g.row.DIM c.args.links.now.rows (Contains c.args.words.now) c.see_sound.ensures.sound c.requires.turns)
    c.loop-number.number survey.0 c.loop-number.least.items
    (λ d live. omega (arith, live-made c.args.links.now.rows d live, c.made-number-end.ensures.made)) survey.2
