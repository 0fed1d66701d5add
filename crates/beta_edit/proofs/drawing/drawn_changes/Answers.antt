use Rattle.std.proofs.Common.{◌+◌, sym}
use Rattle.map_defs.specs.Rows.{links_of}
use Rattle.beta_edit.proofs.DrawnEntries.{cell-more}
use Rattle.beta_edit.proofs.drawing.drawn_changes.Goals as goal

pub loop-dart-preserved : goal.loop-dart-preserved
loop-dart-preserved g c =
    cell-more (links_of c.args.links.now.rows) c.args.beside c.args.darts.now c.requires.laws (g.row.DIM + 1) c.loop-dart.dart-index c.dart-item.result c.loop-dart.changes.items c.push_dart.new.changes.items
    c.requires.can.ascending c.loop-dart-test.true c.dart-item.is (c.loop-dart.dart-index, c.loop-dart-test.true, sym c.dart-item.is) c.loop-dart.invariant c.in_ok-push_dart.ensures
