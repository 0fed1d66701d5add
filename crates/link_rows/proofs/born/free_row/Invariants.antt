use Rattle.std.proofs.Common.{◌≡◌, drop}
use Rattle.map_defs.specs.Edits.{unlinked}
use Rattle.dart_arena.specs.RowChanges.{row_changes}
use Rattle.link_rows.proofs.born.free_row.Given as goal

abbrev pub invariant-loop-link : goal.invariant-loop-link
invariant-loop-link g l =
    (l.rows.rows ≡ unlinked (row_changes l.dart l.link (drop l.link l.links)) l.fn.rows.rows)
    × (l.rows.spare ≡ l.fn.rows.spare) × (l.rows.room ≡ l.fn.rows.room)
