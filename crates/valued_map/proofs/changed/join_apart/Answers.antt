use Rattle.std.proofs.Common.{lit<, refl, arith}
use Rattle.map_defs.specs.LinkWords.{through}
use Rattle.map_defs.specs.Rows.{links_of}
use Rattle.map_defs.specs.Cells.{here, onward}
use Rattle.valued_map.proofs.Joining.{grafts-one}
use Rattle.valued_map.proofs.changed.join_apart.Goals as goal

pub id_beside-requires : goal.id_beside-requires
id_beside-requires g c = (lit< tt, (lit< tt, (omega (arith, c.see_sound.ensures.high), (c.requires.row, λ w here. (c.requires.words w here).1))))

pub returns-clause-grafted : goal.returns-clause-grafted
returns-clause-grafted g c = λ older high.
    let (w, among, there, is) = c.in-Some.ensures.some in
    grafts-one g.K.Kind.kind c.args.links.now.rows older c.args.dim c.args.dart (through (links_of c.args.links.now.rows) w c.args.dart) c.in-Some.id c.args.labels.now c.put.new.self high
    c.put.ensures.after c.put.ensures.made c.put.ensures.places (onward here (w, (c.requires.words w among).0, refl, there)) is
