use Rattle.std.proofs.Common.{lit<, sym, subst, arith}
use Rattle.map_defs.specs.LinkWords.{IsWithin}
use Rattle.map_defs.specs.Rows.{links_of}
use Rattle.cell_walk.proofs.RowSteps.{row-fits}
use Rattle.cell_walk.proofs.Walks.{visited-more, visited-reached}
use Rattle.cell_walk.proofs.orbits.visit.Goals as goal

pub row-requires : goal.row-requires
row-requires g c = (lit< tt, row-fits g.row.DIM c.see_sound.ensures.high)

pub number_from-requires : goal.number_from-requires
number_from-requires g c =
    let within : IsWithin g.row.DIM c.word-item.result = subst (IsWithin g.row.DIM) (sym c.word-item.is) (c.requires c.loop-word.word-index c.word-item.result c.loop-word-test.true) in
    (omega arith, (row-fits g.row.DIM c.see_sound.ensures.high, (within, (c.args.dart, c.in-Some.ensures))))

pub loop-word-preserved : goal.loop-word-preserved
loop-word-preserved g c =
    visited-more (links_of c.args.links.now.rows) c.args.words.now c.loop-word.word-index c.word-item.result c.args.dart c.args.found.now c.loop-word.found c.add.new.found
    c.loop-word-test.true c.word-item.is c.loop-word.invariant
    (visited-reached (links_of c.args.links.now.rows) c.word-item.result c.args.dart c.number_from.result c.loop-word.found c.add.new.found
    (c.number_from.ensures c.args.dart c.in-Some.ensures)
    c.in_ok-add.ensures.none c.in_ok-add.ensures.dart)
