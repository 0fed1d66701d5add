use Rattle.std.proofs.Common.{◌≡◌, ◌++◌, drop}
use Rattle.dart_arena.specs.RowChanges.{row_changes}
use Rattle.link_rows.proofs.born.append_row.Given as goal

abbrev pub invariant-loop-link : goal.invariant-loop-link
invariant-loop-link l = l.changes.items ++ row_changes l.dart l.link (drop l.link l.links) ≡ l.fn.changes.items ++ row_changes l.dart 0 l.links
