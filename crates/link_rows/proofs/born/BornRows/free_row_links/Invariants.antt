use Rattle.std.proofs.Common.{◌≡◌, ◌+◌, drop}
use Rattle.map_defs.specs.Edits.{unlinked}
use Rattle.link_rows.specs.BornRows.{rows_changes}
use Rattle.link_rows.proofs.born.BornRows.free_row_links.Given as goal

abbrev pub invariant-loop-place : goal.invariant-loop-place
invariant-loop-place g l =
    (l.rows.rows ≡ unlinked (rows_changes (l.self.first + l.place) (drop l.place l.self.rows)) l.fn.rows.rows)
    × (l.rows.spare ≡ l.fn.rows.spare) × (l.rows.room ≡ l.fn.rows.room)
