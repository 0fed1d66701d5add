use Rattle.list_text.specs.Views.{cursor_view}
use Rattle.std.proofs.Common.{[], arith}
use Rattle.std.proofs.lemmas.Result.{err_from_is_err_and}
use Rattle.list_text.proofs.Sections.{rows-on, rows-end, rows-done}
use Rattle.row_laws.proofs.RowsRead.{rows_read-are, rows_read-made, no_rows}
use Rattle.row_laws.proofs.LinesRead.{rows-counted}
use Rattle.list_text.proofs.told.read_rows.Goals as goal

pub returns-in_err-left-clause-read : goal.returns-in_err-left-clause-read
returns-in_err-left-clause-read c =
    let p = err_from_is_err_and c.from_residual.result c.from_residual.ensures.1 in
    rw (p.1, p.2)
    (rows-end c.in_err-left.field-0.0 c.args.header.dim c.args.header.made c.args.header.live c.loop.counter c.loop.rows.items (cursor_view c.loop.left) _
    c.loop-test.true c.in_err-left.ensures c.loop.invariant)

pub loop-preserved : goal.loop-preserved
loop-preserved c =
    rows-on c.args.header.dim c.args.header.made c.args.header.live c.loop.counter c.loop.rows.items c.push_row.new.rows.items (cursor_view c.loop.left) (cursor_view c.in_ok-left.left) _
    c.loop-test.true c.in_ok-left.ensures c.loop.invariant

pub returns-clause-rows : goal.returns-clause-rows
returns-clause-rows c =
    rows_read-are c.args.header.dim c.args.header.made c.args.header.live [] (cursor_view c.args.cursor) (c.loop.rows.items, cursor_view c.loop.left) (no_rows c.args.header.dim)
    (rows-done c.args.header.dim c.args.header.made c.args.header.live c.loop.counter c.loop.rows.items (cursor_view c.loop.left) _ c.loop-test.false c.loop.invariant)

pub returns-clause-within : goal.returns-clause-within
returns-clause-within c =
    rows_read-made c.args.header.dim c.args.header.made c.args.header.live [] (cursor_view c.args.cursor) (c.loop.rows.items, cursor_view c.loop.left) (λ k d h. absurd (omega arith))
    (rows-done c.args.header.dim c.args.header.made c.args.header.live c.loop.counter c.loop.rows.items (cursor_view c.loop.left) _ c.loop-test.false c.loop.invariant)

pub returns-clause-counted : goal.returns-clause-counted
returns-clause-counted c =
    let all = rows-counted c.args.header.dim c.args.header.made c.args.header.live [] (cursor_view c.args.cursor) (c.loop.rows.items, cursor_view c.loop.left)
    (rows-done c.args.header.dim c.args.header.made c.args.header.live c.loop.counter c.loop.rows.items (cursor_view c.loop.left) _ c.loop-test.false c.loop.invariant) in
    omega (arith, all)
