use Rattle.std.proofs.Common.{◌≡◌, ◌+◌, ◌≤◌, ◌<◌, ℕ, Some, length, drop}
use Rattle.map_defs.specs.Edits.{free_row, linked}
use Rattle.dart_arena.specs.Stock.{row_at}
use Rattle.link_rows.specs.BornRows.{rows_changes}
use Rattle.link_rows.proofs.born.BornRows.put_whole_rows.Given as goal

abbrev pub invariant-loop-place : goal.invariant-loop-place
invariant-loop-place g l =
    (linked (rows_changes (l.self.first + l.place) (drop l.place l.self.rows)) l.rows.rows ≡ linked (rows_changes l.self.first l.self.rows) l.fn.rows.rows)
    × (l.rows.spare ≡ l.fn.rows.spare) × (l.rows.room ≡ l.fn.rows.room)
    × ((p : ℕ) → l.place ≤ p → p < length l.self.rows → row_at l.rows (l.self.first + p) ≡ Some (free_row g.row.DIM))
