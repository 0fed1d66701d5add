use Rattle.std.proofs.Common.{◌+◌, length, Contains, sym, lit<}
use Rattle.std.specs.Prelude.{vec_len, vec_capacity}
use Rattle.map_defs.specs.Rows.{links_of}
use Rattle.cell_edit.proofs.BridgeEntries.{cell-more}
use Rattle.cell_edit.proofs.ChangeRoom.{room-left, room-used}
use Rattle.cell_edit.proofs.ending.ending_changes.Goals as goal

pub push_dart-requires : goal.push_dart-requires
push_dart-requires g c =
    let key : Contains c.args.darts.now c.dart-item.result = (c.loop-dart.dart-index, c.loop-dart-test.true, sym c.dart-item.is) in
    let room = room-left c.loop-dart.dart-index (length c.args.darts.now) (g.row.DIM + 2) (vec_len c.loop-dart.changes) (vec_capacity c.loop-dart.changes) c.loop-dart-test.true c.loop-dart.invariant.1 c.loop-dart.invariant.2 in
    (lit< tt, (c.requires.link, (c.requires.can, (c.requires.laws, (key, room)))))

pub loop-dart-preserved : goal.loop-dart-preserved
loop-dart-preserved g c = (
  cell-more g.K.Kind.kind (links_of c.args.links.now.rows) c.requires.laws c.args.link c.args.beside (g.row.DIM + 1) c.requires.can.own c.args.darts.now c.loop-dart.dart-index c.dart-item.result c.loop-dart.changes.items c.push_dart.new.changes.items
      c.requires.can.ascending c.loop-dart-test.true c.dart-item.is (c.loop-dart.dart-index, c.loop-dart-test.true, sym c.dart-item.is) c.loop-dart.invariant.0 c.push_dart.ensures.entries,
  room-used c.loop-dart.dart-index (g.row.DIM + 2) (vec_len c.loop-dart.changes) (vec_len c.push_dart.new.changes) c.loop-dart.invariant.1 c.push_dart.ensures.few,
  rw c.push_dart.ensures.capacity c.loop-dart.invariant.2,
)
