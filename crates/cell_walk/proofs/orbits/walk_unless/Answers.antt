use Rattle.std.proofs.Common.{Contains}
use Rattle.map_defs.specs.Rows.{links_of}
use Rattle.map_defs.specs.Cells.{Leads}
use Rattle.cell_walk.proofs.OnWays.{known-round}
use Rattle.cell_walk.proofs.orbits.walk_unless.Goals as goal

pub returns-then-contains : goal.returns-then-contains
returns-then-contains g c =
    known-round (Leads (links_of c.args.links.now.rows) (Contains c.args.words.now)) c.args.found.now c.args.dart c.requires.closed
    (c.contains.ensures.0 c.if-contains.true)
