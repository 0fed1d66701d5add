use Rattle.std.proofs.Common.{◌-◌, refl, inl, inr, lit<, arith}
use Rattle.map_defs.specs.Rows.{links_of}
use Rattle.cell_walk.proofs.RoundDarts.{begun-alone, begun-has, listed-has, half-has, round-found}
use Rattle.cell_walk.proofs.rounds.both_ways.Goals as goal

pub go_on-requires : goal.go_on-requires
go_on-requires g c =
    let begun = begun-alone c.in_ok-darts.darts.items c.push.new.self.items c.args.dart c.in_ok-darts.ensures.items c.in_ok-push.ensures.items in
    let has = begun-has c.push.new.self.items c.args.dart begun in
    (lit< tt, (c.requires.within c.args.ways.now.forth.next (inl refl), (c.requires.within c.args.ways.now.forth.after c.requires.turns.forth, (has, has))))

pub go_on-requires-2 : goal.go_on-requires-2
go_on-requires-2 g c =
    let begun = begun-alone c.in_ok-darts.darts.items c.push.new.self.items c.args.dart c.in_ok-darts.ensures.items c.in_ok-push.ensures.items in
    let has = half-has g.K.Kind.kind (links_of c.args.links.now.rows) c.args.ways.now.forth.next c.args.ways.now.forth.after c.args.ways.now.back.next c.args.ways.now.back.after
    c.args.dart c.push.new.self.items c.go_on.new.darts.items begun c.in_ok-go_on.ensures in
    let last = listed-has c.go_on.new.darts.items c.index-end.result.now (c.len.result - 1) (omega (arith, c.len.ensures, c.go_on.new.darts.ok.0, has.1)) c.index-end.ensures in
    (lit< tt, (c.requires.within c.args.ways.now.back.next (inr refl), (c.requires.within c.args.ways.now.back.after c.requires.turns.back, (has, last))))

pub returns : goal.returns
returns g c = λ y.
    let begun = begun-alone c.in_ok-darts.darts.items c.push.new.self.items c.args.dart c.in_ok-darts.ensures.items c.in_ok-push.ensures.items in
    round-found g.K.Kind.kind (links_of c.args.links.now.rows) c.args.ways.now.forth.next c.args.ways.now.forth.after c.args.ways.now.back.next c.args.ways.now.back.after
    c.args.dart c.push.new.self.items c.go_on.new.darts.items begun c.in_ok-go_on.ensures c.go_on-2.new.darts.items c.requires.turns c.in_ok-go_on-2.ensures y
