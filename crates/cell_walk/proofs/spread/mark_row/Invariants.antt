use Rattle.std.proofs.Common.{false, get_or, IsTrue}
use Rattle.map_defs.specs.Rows.{links_of, IsLive}
use Rattle.cell_walk.specs.Marks.{AreQueued}
use Rattle.cell_walk.specs.Sweeps.{IsAmong}
use Rattle.cell_walk.proofs.spread.mark_row.Given as goal

abbrev pub invariant-loop-link : goal.invariant-loop-link
invariant-loop-link g l =
    AreQueued (links_of l.links.rows) (IsLive l.links.rows) (IsAmong l.link (λ j. IsTrue (get_or l.wanted j false))) l.fn.dart l.fn.marks l.fn.queue.items l.marks l.queue.items
