use Rattle.std.proofs.Common.{◌≡◌, ◌+◌, ℕ, drop}
use Rattle.map_defs.specs.Edits.{linked}
use Rattle.dart_arena.specs.Stock.{IsLive}
use Rattle.link_rows.specs.BornRows.{back_changes}
use Rattle.link_rows.proofs.born.BornRows.put_back_links.Given as goal

abbrev pub invariant-loop-place : goal.invariant-loop-place
invariant-loop-place g l =
    (linked (back_changes l.link (l.self.first + l.place) (drop l.place l.self.rows)) l.rows.rows
    ≡ linked (back_changes l.link l.self.first l.self.rows) l.fn.rows.rows)
    × (l.rows.spare ≡ l.fn.rows.spare) × (l.rows.room ≡ l.fn.rows.room)
    × ((d : ℕ) → IsLive l.fn.rows d → IsLive l.rows d)
