use Rattle.std.proofs.Common.{◌+◌, false, get_or, All, Contains, IsTrue}
use Rattle.std.proofs.lemmas.Result.{on_ok_weaker}
use Rattle.map_defs.specs.Rows.{links_of, IsLive}
use Rattle.cell_walk.specs.Ways.{IsLink}
use Rattle.cell_walk.specs.Sweeps.{IsAmong, AreWanted}
use Rattle.cell_walk.proofs.QueuedDarts.{queued-alike, among-words}
use Rattle.cell_walk.proofs.spread.mark_next.Goals as goal

pub returns-in-Rows : goal.returns-in-Rows
returns-in-Rows g c =
    let rows : All IsLink c.args.words.now × AreWanted c.args.words.now (λ j. IsTrue (get_or c.in-Rows.wanted j false)) = rw c.in-Rows.is at c.requires.sweep in
    on_ok_weaker c.mark_row.result
    (λ step. queued-alike (links_of c.args.links.now.rows) (IsLive c.args.links.now.rows)
    (IsAmong (g.row.DIM + 1) (λ j. IsTrue (get_or c.in-Rows.wanted j false))) (Contains c.args.words.now) c.args.dart
    c.args.marks.now c.mark_row.new.marks c.args.queue.now.items c.mark_row.new.queue.items
    (among-words g.row.DIM c.args.words.now (λ j. IsTrue (get_or c.in-Rows.wanted j false)) c.requires.within rows.0 rows.1) step)
    c.mark_row.ensures
