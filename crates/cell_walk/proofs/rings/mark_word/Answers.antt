use Rattle.cell_walk.proofs.MarkedDarts.{marking-none, marking-low, marking-step, marking-end, fewer-step}
use Rattle.cell_walk.proofs.rings.mark_word.Goals as goal

pub loop-reached-init : goal.loop-reached-init
loop-reached-init g c =
    marking-none g.K.Kind.kind g.row.DIM c.args.links.now.rows c.see_sound.ensures.sound c.args.word c.args.word c.args.dart c.args.marks.now c.requires.live c.requires.met

pub newly_marked-requires-clause-place : goal.newly_marked-requires-clause-place
newly_marked-requires-clause-place g c =
    marking-low g.K.Kind.kind g.row.DIM c.args.links.now.rows c.see_sound.ensures.sound c.args.word c.args.word c.args.dart c.args.marks.now
    c.args.word c.args.word c.loop-reached.at c.number_from.result c.loop-reached.marks c.see_sound.ensures.begun c.requires.places
    (c.number_from.ensures c.loop-reached.at c.live_row.ensures) c.loop-reached.invariant

pub loop-reached-smaller : goal.loop-reached-smaller
loop-reached-smaller g c =
    fewer-step c.number_from.result c.in-Some.reached c.loop-reached.marks c.newly_marked.new.marks
    (marking-low g.K.Kind.kind g.row.DIM c.args.links.now.rows c.see_sound.ensures.sound c.args.word c.args.word c.args.dart c.args.marks.now
    c.args.word c.args.word c.loop-reached.at c.number_from.result c.loop-reached.marks c.see_sound.ensures.begun c.requires.places
    (c.number_from.ensures c.loop-reached.at c.live_row.ensures) c.loop-reached.invariant)
    c.in-Some.ensures.some c.in-Some.ensures.marked

pub loop-reached-preserved : goal.loop-reached-preserved
loop-reached-preserved g c =
    marking-step g.K.Kind.kind g.row.DIM c.args.links.now.rows c.see_sound.ensures.sound c.args.word c.args.word c.args.dart c.args.marks.now
    c.args.word c.args.word c.loop-reached.at c.number_from.result c.in-Some.reached c.loop-reached.marks c.newly_marked.new.marks c.requires.places
    (c.number_from.ensures c.loop-reached.at c.live_row.ensures) c.in-Some.ensures.some c.in-Some.ensures.marked c.loop-reached.invariant

pub returns : goal.returns
returns g c =
    marking-end g.K.Kind.kind g.row.DIM c.args.links.now.rows c.see_sound.ensures.sound c.args.word c.args.word c.args.dart c.args.marks.now
    c.args.word c.args.word c.loop-reached.at c.number_from.result c.loop-reached.marks c.newly_marked.new.marks
    (c.number_from.ensures c.loop-reached.at c.live_row.ensures) c.in_default.ensures.none c.in_default.ensures.same c.loop-reached.invariant
