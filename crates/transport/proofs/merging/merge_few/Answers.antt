use Rattle.std.proofs.Common.{◌≡◌, ◌<◌, length, sym, subst}
use Rattle.transport.specs.Pieces.{piece_at}
use Rattle.transport.specs.declared.pieces.Piece.{Piece}
use Rattle.transport.proofs.MergeFacts.{read_piece, before_all, merged_step}
use Rattle.transport.proofs.merging.merge_few.Goals as goal

pub merge_piece-requires-clause-counts : goal.merge_piece-requires-clause-counts
merge_piece-requires-clause-counts g c =
    let p = c.index-pieces-place.result in
    let k = c.loop-place.place in
    let rule = g.R.Rule.meaning c.args.rule.now in
    before_all rule c.args.pool.now c.args.pieces.now k p c.count_before-total.result c.count_before-before.result (read_piece rule c.args.pool.now c.args.pieces.now k p c.loop-place-test.true c.index-pieces-place.is) c.loop-place-test.true
    c.count_before-total.ensures c.count_before-before.ensures

pub loop-place-preserved : goal.loop-place-preserved
loop-place-preserved g c =
    let p = c.index-pieces-place.result in
    let k = c.loop-place.place in
    let rule = g.R.Rule.meaning c.args.rule.now in
    let at : p ≡ piece_at c.args.pieces.now k = read_piece rule c.args.pool.now c.args.pieces.now k p c.loop-place-test.true c.index-pieces-place.is in
    let placed : p.cell < length c.args.cells.now.items = subst (λ (q : Piece). q.cell < length c.args.cells.now.items) (sym at) (c.requires.placed k c.loop-place-test.true) in
    merged_step rule c.args.pool.now c.args.pieces.now k c.args.cells.now.items c.loop-place.cells.items c.merge_piece.new.cells.items p c.count_before-total.result c.count_before-before.result c.loop-place.invariant at placed
    c.count_before-total.ensures c.count_before-before.ensures c.merge_piece.ensures
