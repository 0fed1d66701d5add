use Rattle.std.proofs.Common.{Contains, inl, inr, refl, arith}
use Rattle.map_defs.specs.LinkWords.{one_link}
use Rattle.map_defs.specs.Rows.{links_of}
use Rattle.cell_walk.specs.Ways.{IsEither, AreAlong}
use Rattle.cell_walk.specs.Sweeps.{turning, keeping}
use Rattle.cell_walk.proofs.OnWays.{within-alike}
use Rattle.cell_walk.proofs.MarkedDarts.{marked-alike}
use Rattle.cell_walk.proofs.whole_map.mark_orbit.Goals as goal

pub mark_turns-requires : goal.mark_turns-requires
mark_turns-requires g c =
    let along : AreAlong g.K.Kind.kind c.args.words.now (turning c.in-Turns.forth c.in-Turns.back) = rw c.in-Turns.is at c.requires.sweep in
    let within = within-alike g.row.DIM c.args.words.now (IsEither (one_link c.in-Turns.forth.0) (one_link c.in-Turns.back.0)) along.same c.requires.within in
    (omega arith, (((within (one_link c.in-Turns.forth.0) (inl refl)).0, (within (one_link c.in-Turns.forth.1) along.turns.forth).0), (((within (one_link c.in-Turns.back.0) (inr refl)).0, (within (one_link c.in-Turns.back.1) along.turns.back).0), (along.turns, (c.requires.live, (c.requires.places, c.requires.nothing))))))

pub returns-in-Turns : goal.returns-in-Turns
returns-in-Turns g c =
    let along : AreAlong g.K.Kind.kind c.args.words.now (turning c.in-Turns.forth c.in-Turns.back) = rw c.in-Turns.is at c.requires.sweep in
    marked-alike (links_of c.args.links.now.rows) (Contains c.args.words.now) (IsEither (one_link c.in-Turns.forth.0) (one_link c.in-Turns.back.0)) along.same
    c.args.dart c.args.marks.now c.mark_turns.new.marks c.mark_turns.ensures

pub mark_again-requires : goal.mark_again-requires
mark_again-requires g c =
    let along : AreAlong g.K.Kind.kind c.args.words.now (keeping c.in-Again.forth c.in-Again.back) = rw c.in-Again.is at c.requires.sweep in
    let within = within-alike g.row.DIM c.args.words.now (IsEither c.in-Again.forth c.in-Again.back) along.same c.requires.within in
    (omega arith, (within c.in-Again.forth (inl refl), (within c.in-Again.back (inr refl), (along.turns, (c.requires.live, (c.requires.places, c.requires.nothing))))))

pub returns-in-Again : goal.returns-in-Again
returns-in-Again g c =
    let along : AreAlong g.K.Kind.kind c.args.words.now (keeping c.in-Again.forth c.in-Again.back) = rw c.in-Again.is at c.requires.sweep in
    marked-alike (links_of c.args.links.now.rows) (Contains c.args.words.now) (IsEither c.in-Again.forth c.in-Again.back) along.same
    c.args.dart c.args.marks.now c.mark_again.new.marks c.mark_again.ensures
