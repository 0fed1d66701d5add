use Rattle.std.proofs.Common.{take, Contains}
use Rattle.map_defs.specs.Rows.{links_of, IsLive}
use Rattle.cell_walk.specs.Marks.{AreQueued}
use Rattle.cell_walk.proofs.spread.mark_words.Given as goal

abbrev pub invariant-loop-word : goal.invariant-loop-word
invariant-loop-word g l =
    AreQueued (links_of l.links.rows) (IsLive l.links.rows) (Contains (take l.word-index l.words)) l.fn.dart l.initial.marks l.initial.queue.items l.marks l.queue.items
