use Rattle.std.proofs.Common.{◌≢◌}
use Rattle.map_defs.specs.Rows.{links_of}
use Rattle.cell_edit.proofs.Listed.{not-all, one-more, all-told}
use Rattle.face_center.proofs.center.are_closed.Goals as goal

pub returns-then-not-is_closed : goal.returns-then-not-is_closed
returns-then-not-is_closed g c =
    not-all (λ x. (links_of c.args.links.now.rows 0 x ≢ 0) × (links_of c.args.links.now.rows 1 x ≢ 0)) c.args.darts.now c.loop-dart.dart-index c.dart-item.result c.is_closed.result
    c.loop-dart-test.true c.dart-item.is c.if-not-is_closed.true c.is_closed.ensures

pub loop-dart-preserved : goal.loop-dart-preserved
loop-dart-preserved g c =
    one-more (λ x. (links_of c.args.links.now.rows 0 x ≢ 0) × (links_of c.args.links.now.rows 1 x ≢ 0)) c.args.darts.now c.loop-dart.dart-index c.dart-item.result
    c.loop-dart-test.true c.dart-item.is (c.is_closed.ensures.0 c.if-not-is_closed.false) c.loop-dart.invariant

pub returns : goal.returns
returns g c =
    all-told (λ x. (links_of c.args.links.now.rows 0 x ≢ 0) × (links_of c.args.links.now.rows 1 x ≢ 0)) c.args.darts.now c.loop-dart.dart-index c.loop-dart-test.false c.loop-dart.invariant
