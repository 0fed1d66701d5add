use Rattle.std.proofs.Common.{◌≡◌, ℕ, drop}
use Rattle.map_defs.specs.Edits.{linked}
use Rattle.dart_arena.specs.Stock.{IsLive}
use Rattle.link_rows.proofs.steps.link.Given as goal

abbrev pub invariant-loop-change : goal.invariant-loop-change
invariant-loop-change g l =
    (linked (drop l.change-index l.changes) l.rows.rows ≡ linked l.changes l.fn.rows.rows)
    × (l.rows.spare ≡ l.fn.rows.spare) × (l.rows.room ≡ l.fn.rows.room)
    × ((d : ℕ) → IsLive l.fn.rows d → IsLive l.rows d)
