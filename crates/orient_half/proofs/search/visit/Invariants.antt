use Rattle.map_defs.specs.Rows.{links_of, IsLive}
use Rattle.orient_half.proofs.Spreading.{IsVisited}
use Rattle.orient_half.proofs.search.visit.Given as goal

abbrev pub invariant-loop-link : goal.invariant-loop-link
invariant-loop-link g l =
    IsVisited g.row.DIM (IsLive l.links.rows) (links_of l.links.rows) l.fn.dart l.link l.fn.search.marks.items l.search.marks.items l.fn.search.queue.items l.search.queue.items
