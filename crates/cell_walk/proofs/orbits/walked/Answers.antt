use Rattle.std.proofs.Common.{Contains, inr, lit<}
use Rattle.map_defs.specs.Rows.{links_of}
use Rattle.map_defs.specs.Cells.{Leads}
use Rattle.cell_walk.proofs.Walks.{Contains-none, closed-none, orbit-alone}
use Rattle.cell_walk.proofs.orbits.walked.Goals as goal

pub walk-requires : goal.walk-requires
walk-requires g c =
    (lit< tt, (c.requires.within, (c.requires.course, (rw c.new-found.ensures (closed-none (Leads (links_of c.args.links.now.rows) (Contains c.args.words.now))), rw c.new-found.ensures (Contains-none c.args.dart)))))

pub returns-clause-members : goal.returns-clause-members
returns-clause-members g c = λ y.
    let same = c.into_ascending.ensures.members y in
    let walked = (rw c.new-found.ensures at c.in_ok-walk.ensures.members) y in (
      λ has. orbit-alone (Leads (links_of c.args.links.now.rows) (Contains c.args.words.now)) c.args.dart y (walked.0 (same.0 has)),
      λ reached. same.1 (walked.1 (inr reached)),
    )
