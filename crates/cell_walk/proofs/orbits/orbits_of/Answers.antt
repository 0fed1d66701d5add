use Rattle.std.proofs.Common.{Contains, take, lit<, arith}
use Rattle.map_defs.specs.Rows.{links_of}
use Rattle.map_defs.specs.Cells.{Leads}
use Rattle.cell_walk.proofs.ManyOrbits.{orbits-closed, orbits-more, orbits-all}
use Rattle.cell_walk.proofs.orbits.orbits_of.Goals as goal

pub walk_unless-requires : goal.walk_unless-requires
walk_unless-requires g c =
    (lit< tt, (c.requires, (c.course_along-course.ensures, orbits-closed (Leads (links_of c.args.links.now.rows) (Contains c.args.words.now)) (take c.loop-dart.dart-index c.args.darts.now) c.loop-dart.found c.loop-dart.invariant)))

pub loop-dart-preserved : goal.loop-dart-preserved
loop-dart-preserved g c =
    orbits-more (Leads (links_of c.args.links.now.rows) (Contains c.args.words.now)) c.args.darts.now c.loop-dart.dart-index c.dart-item.result c.loop-dart.found c.walk_unless.new.found
    c.loop-dart-test.true c.dart-item.is c.loop-dart.invariant c.in_ok-walk_unless.ensures

pub returns-clause-members : goal.returns-clause-members
returns-clause-members g c = λ y.
    let same = c.into_ascending.ensures.members y in
    let all = orbits-all (Leads (links_of c.args.links.now.rows) (Contains c.args.words.now)) c.args.darts.now c.loop-dart.dart-index c.loop-dart.found (omega arith) c.loop-dart.invariant y in
    (λ has. all.0 (same.0 has), λ from. same.1 (all.1 from))
