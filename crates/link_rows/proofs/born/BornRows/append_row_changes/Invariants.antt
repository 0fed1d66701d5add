use Rattle.std.proofs.Common.{◌≡◌, ◌+◌, ◌++◌, drop}
use Rattle.link_rows.specs.BornRows.{rows_changes}
use Rattle.link_rows.proofs.born.BornRows.append_row_changes.Given as goal

abbrev pub invariant-loop-place : goal.invariant-loop-place
invariant-loop-place l =
    l.changes.items ++ rows_changes (l.self.first + l.place) (drop l.place l.self.rows) ≡ l.fn.changes.items ++ rows_changes l.self.first l.self.rows
