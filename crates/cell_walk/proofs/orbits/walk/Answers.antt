use Rattle.std.proofs.Common.{Contains, arith}
use Rattle.std.proofs.lemmas.Result.{on_ok_weaker}
use Rattle.map_defs.specs.Rows.{links_of}
use Rattle.cell_walk.specs.Ways.{IsEither, AreAlong}
use Rattle.cell_walk.proofs.OnWays.{closed-alike, round-alike, within-alike}
use Rattle.cell_walk.proofs.orbits.walk.Goals as goal

pub go_round-requires : goal.go_round-requires
go_round-requires g c =
    let along : AreAlong g.K.Kind.kind c.args.words.now c.in-Round.ways = rw c.in-Round.is at c.requires.course in (
      omega arith,
      (
        within-alike g.row.DIM c.args.words.now (IsEither c.in-Round.ways.forth.next c.in-Round.ways.back.next) along.same c.requires.within,
        (
          along.turns,
          (
            closed-alike (links_of c.args.links.now.rows) (Contains c.args.words.now) (IsEither c.in-Round.ways.forth.next c.in-Round.ways.back.next) along.same c.args.found.now c.requires.closed,
            c.requires.fresh,
          ),
        ),
      ),
    )

pub returns-in-Round-clause-members : goal.returns-in-Round-clause-members
returns-in-Round-clause-members g c =
    let along : AreAlong g.K.Kind.kind c.args.words.now c.in-Round.ways = rw c.in-Round.is at c.requires.course in
    on_ok_weaker c.go_round.result
    (λ found. round-alike (links_of c.args.links.now.rows) (Contains c.args.words.now) (IsEither c.in-Round.ways.forth.next c.in-Round.ways.back.next) along.same c.args.dart c.args.found.now c.go_round.new.found found)
    c.go_round.ensures.members
