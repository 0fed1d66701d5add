use Rattle.std.proofs.Common.{arith}
use Rattle.list_text.specs.Views.{cursor_view, header_view}
use Rattle.row_laws.proofs.LinesRead.{header-counted}
use Rattle.list_text.proofs.told.read_told.Goals as goal

pub returns-clause-few : goal.returns-clause-few
returns-clause-few c =
    let first = header-counted (cursor_view c.args.cursor) (header_view c.in_ok-header.header, cursor_view c.in_ok-header.left) c.in_ok-header.ensures.header in
    let last = c.in_ok-values.left.bound in
    omega (arith, first, c.in_ok-rows.ensures.counted, c.in_ok-rules.ensures.counted, c.in_ok-values.ensures.counted, last)
