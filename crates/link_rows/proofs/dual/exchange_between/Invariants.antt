use Rattle.std.proofs.Common.{◌≡◌}
use Rattle.map_defs.specs.Rows.{links_of}
use Rattle.link_rows.specs.Turning.{HaveSameDarts}
use Rattle.link_rows.proofs.Exchanges.{AreExchangedTo}
use Rattle.link_rows.proofs.dual.exchange_between.Given as goal

abbrev pub invariant-loop-link : goal.invariant-loop-link
invariant-loop-link g l =
    AreExchangedTo g.row.DIM l.link (links_of l.fn.rows.rows) (links_of l.rows.rows) l.one l.other
    × HaveSameDarts g.row.DIM l.fn.rows.rows l.rows.rows
    × (l.rows.spare ≡ l.fn.rows.spare) × (l.rows.room ≡ l.fn.rows.room)
