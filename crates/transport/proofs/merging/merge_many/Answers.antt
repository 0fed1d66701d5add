use Rattle.std.proofs.Common.{◌≡◌, ◌<◌, ◌∙◌, length, sym, subst, arith}
use Rattle.transport.specs.Pieces.{piece_at, has_id}
use Rattle.transport.specs.declared.pieces.Piece.{Piece}
use Rattle.transport.specs.Tallies.{count_of}
use Rattle.transport.proofs.Picking.{count_at_most}
use Rattle.transport.proofs.MergeFacts.{read_piece, before_all, merged_step, tally_more}
use Rattle.transport.proofs.merging.merge_many.Goals as goal

pub merge_piece-requires-clause-counts : goal.merge_piece-requires-clause-counts
merge_piece-requires-clause-counts g c =
    let p = c.piece-item.result in
    let k = c.loop-piece.piece-index in
    let rule = g.R.Rule.meaning c.args.rule.now in
    before_all rule c.args.pool.now c.args.pieces.now k p c.count-total.result c.count-passed.result (read_piece rule c.args.pool.now c.args.pieces.now k p c.loop-piece-test.true c.piece-item.is) c.loop-piece-test.true
    (c.count-total.ensures ∙ c.in_ok-totals.ensures p.id) (c.count-passed.ensures ∙ c.loop-piece.invariant.1 p.id)

pub add-requires : goal.add-requires
add-requires g c =
    let most = count_at_most (has_id c.args.pieces.now c.piece-item.result.id) c.loop-piece.piece-index in
    let count = c.loop-piece.invariant.1 c.piece-item.result.id in
    let few = c.requires.few in
    omega arith

pub loop-piece-preserved : goal.loop-piece-preserved
loop-piece-preserved g c =
    let p = c.piece-item.result in
    let k = c.loop-piece.piece-index in
    let rule = g.R.Rule.meaning c.args.rule.now in
    let at : p ≡ piece_at c.args.pieces.now k = read_piece rule c.args.pool.now c.args.pieces.now k p c.loop-piece-test.true c.piece-item.is in
    let placed : p.cell < length c.args.cells.now.items = subst (λ (q : Piece). q.cell < length c.args.cells.now.items) (sym at) (c.requires.placed k c.loop-piece-test.true) in (
      merged_step rule c.args.pool.now c.args.pieces.now k c.args.cells.now.items c.loop-piece.cells.items c.merge_piece.new.cells.items p c.count-total.result c.count-passed.result c.loop-piece.invariant.0 at placed
          (c.count-total.ensures ∙ c.in_ok-totals.ensures p.id) (c.count-passed.ensures ∙ c.loop-piece.invariant.1 p.id) c.merge_piece.ensures,
      tally_more rule c.args.pool.now c.args.pieces.now k p (count_of c.loop-piece.before) (count_of c.add.new.self) at c.loop-piece.invariant.1 c.in_ok-add.ensures,
    )
