use Rattle.std.proofs.Common.{◌-◌}
use Rattle.map_defs.specs.Rows.{links_of, IsLive}
use Rattle.orient_half.proofs.Spreading.{IsSpread}
use Rattle.orient_half.proofs.search.spread.Given as goal

abbrev pub invariant-loop-next : goal.invariant-loop-next
invariant-loop-next g l =
    IsSpread g.row.DIM (IsLive l.links.rows) (links_of l.links.rows) l.fn.first l.fn.search.marks.items l.next l.search.marks.items l.search.queue.items

abbrev pub decreases-loop-next : goal.decreases-loop-next
decreases-loop-next g l = 18446744073709551616 - l.next
