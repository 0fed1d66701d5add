use Rattle.std.proofs.Common.{take}
use Rattle.list_text.specs.Spread.{AreSpread}
use Rattle.list_text.proofs.links.spread_links.Given as goal

abbrev pub invariant-loop-row : goal.invariant-loop-row
invariant-loop-row g l = AreSpread g.row.DIM l.listing.made (take l.row-index l.rows) l.builder.rows
