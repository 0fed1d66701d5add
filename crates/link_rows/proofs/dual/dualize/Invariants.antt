use Rattle.std.proofs.Common.{◌≡◌}
use Rattle.map_defs.specs.Rows.{links_of}
use Rattle.link_rows.specs.Turning.{HaveSameDarts}
use Rattle.link_rows.proofs.TurnedDarts.{AreTurnedTo}
use Rattle.link_rows.proofs.dual.dualize.Given as goal

abbrev pub invariant-loop-number : goal.invariant-loop-number
invariant-loop-number g l =
    AreTurnedTo g.row.DIM l.number (links_of l.fn.rows.rows) (links_of l.rows.rows)
    × HaveSameDarts g.row.DIM l.fn.rows.rows l.rows.rows
    × (l.rows.spare ≡ l.fn.rows.spare) × (l.rows.room ≡ l.fn.rows.room)
