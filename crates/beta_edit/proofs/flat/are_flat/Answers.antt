use Rattle.map_defs.specs.Rows.{links_of}
use Rattle.map_defs.specs.Removal.{IsFlatAt}
use Rattle.cell_edit.proofs.Listed.{not-all, one-more, all-told}
use Rattle.beta_edit.proofs.flat.are_flat.Goals as goal

pub returns-then-not-is_flat : goal.returns-then-not-is_flat
returns-then-not-is_flat g c =
    not-all (IsFlatAt (links_of c.args.links.now.rows)) c.args.darts.now c.loop-dart.dart-index c.dart-item.result c.is_flat.result
    c.loop-dart-test.true c.dart-item.is c.if-not-is_flat.true c.is_flat.ensures

pub loop-dart-preserved : goal.loop-dart-preserved
loop-dart-preserved g c =
    one-more (IsFlatAt (links_of c.args.links.now.rows)) c.args.darts.now c.loop-dart.dart-index c.dart-item.result
    c.loop-dart-test.true c.dart-item.is (c.is_flat.ensures.0 c.if-not-is_flat.false) c.loop-dart.invariant

pub returns : goal.returns
returns g c = all-told (IsFlatAt (links_of c.args.links.now.rows)) c.args.darts.now c.loop-dart.dart-index c.loop-dart-test.false c.loop-dart.invariant
