use Rattle.std.proofs.Common.{Contains, lit<}
use Rattle.std.proofs.lemmas.Result.{IfOk-weaker}
use Rattle.map_defs.specs.Rows.{links_of}
use Rattle.cell_walk.specs.Ways.{IsEither, AreAlong}
use Rattle.cell_walk.proofs.OnWays.{orbit-alike, within-alike}
use Rattle.cell_walk.proofs.orbits.orbit.Goals as goal

pub round-requires : goal.round-requires
round-requires g c =
    let along : AreAlong g.K.Kind.kind c.args.words.now c.in-Round.ways = rw c.in-Round.is at c.course_along.ensures in
    (lit< tt, (within-alike g.row.DIM c.args.words.now (IsEither c.in-Round.ways.forth.next c.in-Round.ways.back.next) along.same c.requires, along.turns))

pub returns-in-Round-clause-members : goal.returns-in-Round-clause-members
returns-in-Round-clause-members g c =
    let along : AreAlong g.K.Kind.kind c.args.words.now c.in-Round.ways = rw c.in-Round.is at c.course_along.ensures in
    IfOk-weaker c.round.result _ _
    (λ orbit members y.
    let same = orbit-alike (links_of c.args.links.now.rows) (Contains c.args.words.now) (IsEither c.in-Round.ways.forth.next c.in-Round.ways.back.next) along.same c.args.dart y in
    (λ has. same.0 ((members y).0 has), λ o. (members y).1 (same.1 o)))
    c.round.ensures.members
