use Rattle.std.proofs.Common.{◌≡◌, ◌+◌, ◌∙◌, ap, length, arith}
use Rattle.std.proofs.lemmas.List.{get_or_default}
use Rattle.store_defs.specs.Groups.{Group, no_group, group_at}
use Rattle.transport.proofs.Gathering.{read_dart, gathered_more, gathered_next}
use Rattle.transport.proofs.Meeting.{forgotten}
use Rattle.transport.proofs.pieces.add_pieces.Goals as goal

pub loop-dart-preserved : goal.loop-dart-preserved
loop-dart-preserved g c =
    let darts : c.deref-dart-items.result.now ≡ c.index-cells-place.result.darts = c.deref-dart-items.ensures.value ∙ ap (λ (v : Group). v.darts) c.cell.view_is in
    let read = read_dart c.args.cells.now c.args.place c.loop-dart.dart-index c.dart-item.result c.index-cells-place.result c.deref-dart-items.result.now c.requires.place c.index-cells-place.is darts c.loop-dart-test.true c.dart-item.is in
    record {
      gathered = gathered_more _ c.args.cells.now c.requires.apart c.args.place c.loop-dart.dart-index c.dart-item.result c.requires.place read.0 read.1 _ _ _ _ c.loop-dart.invariant.gathered c.in_ok-add_piece.ensures.added;
      ready = c.in_ok-add_piece.ensures.ready;
    }

pub returns-clause-gathered : goal.returns-clause-gathered
returns-clause-gathered g c =
    let darts : c.deref-dart-items.result.now ≡ c.index-cells-place.result.darts = c.deref-dart-items.ensures.value ∙ ap (λ (v : Group). v.darts) c.cell.view_is in
    let read : c.index-cells-place.result ≡ group_at c.args.cells.now c.args.place = c.index-cells-place.is ∙ get_or_default c.args.cells.now c.args.place c.index-cells-place.result no_group c.requires.place in
    let same : length c.deref-dart-items.result.now ≡ length (group_at c.args.cells.now c.args.place).darts = ap length (darts ∙ ap (λ (v : Group). v.darts) read) in
    gathered_next _ c.args.cells.now c.args.place c.loop-dart.dart-index _ _ _ (omega arith) c.loop-dart.invariant.gathered (forgotten c.forget.new.self c.loop-dart.pieces.items (c.args.place + 1) (let start = c.forget.ensures.start in let long = c.len.ensures in omega arith) c.forget.ensures.none)
