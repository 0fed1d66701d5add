use Rattle.std.proofs.Common.{Contains, ◌∙◌, arith}
use Rattle.std.proofs.lemmas.List.{get_or_default}
use Rattle.cell_walk.proofs.RowSteps.{live-low, live-real}
use Rattle.cell_walk.proofs.QueuedDarts.{spreading-none, spreading-more, spreading-all}
use Rattle.cell_walk.proofs.spread.mark_spread.Goals as goal

pub loop-place-init : goal.loop-place-init
loop-place-init g c =
    spreading-none c.args.links.now.rows (Contains c.args.words.now) c.args.dart c.args.marks.now
    c.number.result c.put.new.marks c.clear.new.self.items c.put.new.darts.items c.number.ensures.same
    (omega (arith, live-low c.args.links.now.rows c.args.dart c.requires.live, c.requires.places))
    (live-real g.K.Kind.kind g.row.DIM c.args.links.now.rows c.see_sound.ensures.sound c.args.dart c.requires.live)
    c.requires.live c.requires.fresh c.clear.ensures.items c.in_ok-put.ensures.new

pub loop-place-preserved : goal.loop-place-preserved
loop-place-preserved g c =
    spreading-more c.args.links.now.rows (Contains c.args.words.now) c.args.dart c.args.marks.now
    c.loop-place.place c.index.result.now c.loop-place.marks c.mark_next.new.marks c.loop-place.queue.items c.mark_next.new.queue.items
    (omega (arith, c.len.ensures, c.loop-place-test.true, c.loop-place.queue.ok.0))
    (c.index.ensures ∙ get_or_default c.loop-place.queue.items c.loop-place.place c.index.result.now 0 (omega (arith, c.len.ensures, c.loop-place-test.true, c.loop-place.queue.ok.0)))
    c.in_ok-mark_next.ensures c.loop-place.invariant

pub returns : goal.returns
returns g c =
    spreading-all c.args.links.now.rows (Contains c.args.words.now) c.args.dart c.args.marks.now
    c.loop-place.place c.loop-place.marks c.loop-place.queue.items
    (omega (arith, c.len.ensures, c.loop-place-test.false, c.loop-place.queue.ok.0)) c.loop-place.invariant
