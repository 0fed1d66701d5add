use Rattle.std.proofs.Common.{lit<, sym, ap, subst, ◌∙◌, arith}
use Rattle.map_defs.specs.Cells.{here, onward}
use Rattle.store_defs.specs.Labelings.{IsRelabelled, id_of}
use Rattle.valued_map.proofs.Joining.{grafts-beside}
use Rattle.valued_map.proofs.changed.join_older.Goals as goal

pub row-requires : goal.row-requires
row-requires g c = (lit< tt, omega (arith, c.see_sound.ensures.high))

pub older_along-requires : goal.older_along-requires
older_along-requires g c = (lit< tt, (omega (arith, c.see_sound.ensures.high), (rw c.in-Some-row.is at c.row.ensures, λ w here. ((c.requires.words w).0 here).1)))

pub returns-clause-grafted : goal.returns-clause-grafted
returns-clause-grafted g c =
    let (w, among, is, there, low) = c.in-Some-older_along.ensures in
    grafts-beside g.K.Kind.kind c.args.links.now.rows c.args.older c.args.dim c.in-Some.dart c.in-Some-older_along.other c.args.labels.now c.put.new.self
    (omega (arith, c.requires.high, c.in-Some.ensures.same)) (subst (IsRelabelled c.args.labels.now c.put.new.self c.args.dim c.in-Some.dart) c.id-id.ensures.id c.put.ensures.after)
    (ap (id_of c.args.labels.now c.args.dim) c.in-Some.ensures.same ∙ c.requires.bare) c.put.ensures.made c.put.ensures.places
    (onward here (w, ((c.requires.words w).0 among).0, sym is, there))
