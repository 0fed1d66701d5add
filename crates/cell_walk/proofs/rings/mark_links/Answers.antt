use Rattle.std.proofs.Common.{◌<◌, ◌∙◌, arith}
use Rattle.map_defs.specs.LinkWords.{one_link}
use Rattle.cell_walk.proofs.MarkedDarts.{marking-none, marking-low, marking-step, marking-end, unmarked_count, fewer-step}
use Rattle.cell_walk.proofs.rings.mark_links.Goals as goal

pub loop-middle-init : goal.loop-middle-init
loop-middle-init g c =
    marking-none g.K.Kind.kind g.row.DIM c.args.links.now.rows c.see_sound.ensures.sound (one_link c.args.one) (one_link c.args.other) c.args.dart c.args.marks.now c.requires.live c.requires.met

pub newly_marked-requires-in-Some-clause-place : goal.newly_marked-requires-in-Some-clause-place
newly_marked-requires-in-Some-clause-place g c =
    let half = marking-step g.K.Kind.kind g.row.DIM c.args.links.now.rows c.see_sound.ensures.sound (one_link c.args.one) (one_link c.args.other) c.args.dart c.args.marks.now
    (one_link c.args.one) (one_link c.args.other) c.loop-middle.at c.entry.result c.in-Some.middle c.loop-middle.marks c.newly_marked.new.marks c.requires.places
    (c.entry.ensures ∙ c.live_row.ensures c.args.one) c.in-Some.ensures.some c.in-Some.ensures.marked c.loop-middle.invariant in
    marking-low g.K.Kind.kind g.row.DIM c.args.links.now.rows c.see_sound.ensures.sound (one_link c.args.one) (one_link c.args.other) c.args.dart c.args.marks.now
    (one_link c.args.other) (one_link c.args.one) c.in-Some.middle c.entry-in-Some.result c.newly_marked.new.marks c.see_sound.ensures.begun c.requires.places
    (c.entry-in-Some.ensures ∙ c.live_row-in-Some.ensures c.args.other) half

pub loop-middle-smaller : goal.loop-middle-smaller
loop-middle-smaller g c =
    let half = marking-step g.K.Kind.kind g.row.DIM c.args.links.now.rows c.see_sound.ensures.sound (one_link c.args.one) (one_link c.args.other) c.args.dart c.args.marks.now
    (one_link c.args.one) (one_link c.args.other) c.loop-middle.at c.entry.result c.in-Some.middle c.loop-middle.marks c.newly_marked.new.marks c.requires.places
    (c.entry.ensures ∙ c.live_row.ensures c.args.one) c.in-Some.ensures.some c.in-Some.ensures.marked c.loop-middle.invariant in
    let first : unmarked_count c.newly_marked.new.marks < unmarked_count c.loop-middle.marks =
    fewer-step c.entry.result c.in-Some.middle c.loop-middle.marks c.newly_marked.new.marks
    (marking-low g.K.Kind.kind g.row.DIM c.args.links.now.rows c.see_sound.ensures.sound (one_link c.args.one) (one_link c.args.other) c.args.dart c.args.marks.now
    (one_link c.args.one) (one_link c.args.other) c.loop-middle.at c.entry.result c.loop-middle.marks c.see_sound.ensures.begun c.requires.places
    (c.entry.ensures ∙ c.live_row.ensures c.args.one) c.loop-middle.invariant)
    c.in-Some.ensures.some c.in-Some.ensures.marked in
    let second : unmarked_count c.newly_marked-in-Some.new.marks < unmarked_count c.newly_marked.new.marks =
    fewer-step c.entry-in-Some.result c.in-Some-newly_marked.reached c.newly_marked.new.marks c.newly_marked-in-Some.new.marks
    (marking-low g.K.Kind.kind g.row.DIM c.args.links.now.rows c.see_sound.ensures.sound (one_link c.args.one) (one_link c.args.other) c.args.dart c.args.marks.now
    (one_link c.args.other) (one_link c.args.one) c.in-Some.middle c.entry-in-Some.result c.newly_marked.new.marks c.see_sound.ensures.begun c.requires.places
    (c.entry-in-Some.ensures ∙ c.live_row-in-Some.ensures c.args.other) half)
    c.in-Some-newly_marked.ensures.some c.in-Some-newly_marked.ensures.marked in
    omega (arith, first, second)

pub loop-middle-preserved : goal.loop-middle-preserved
loop-middle-preserved g c =
    let half = marking-step g.K.Kind.kind g.row.DIM c.args.links.now.rows c.see_sound.ensures.sound (one_link c.args.one) (one_link c.args.other) c.args.dart c.args.marks.now
    (one_link c.args.one) (one_link c.args.other) c.loop-middle.at c.entry.result c.in-Some.middle c.loop-middle.marks c.newly_marked.new.marks c.requires.places
    (c.entry.ensures ∙ c.live_row.ensures c.args.one) c.in-Some.ensures.some c.in-Some.ensures.marked c.loop-middle.invariant in
    marking-step g.K.Kind.kind g.row.DIM c.args.links.now.rows c.see_sound.ensures.sound (one_link c.args.one) (one_link c.args.other) c.args.dart c.args.marks.now
    (one_link c.args.other) (one_link c.args.one) c.in-Some.middle c.entry-in-Some.result c.in-Some-newly_marked.reached c.newly_marked.new.marks c.newly_marked-in-Some.new.marks c.requires.places
    (c.entry-in-Some.ensures ∙ c.live_row-in-Some.ensures c.args.other) c.in-Some-newly_marked.ensures.some c.in-Some-newly_marked.ensures.marked half

pub returns-in-None : goal.returns-in-None
returns-in-None g c =
    let half = marking-step g.K.Kind.kind g.row.DIM c.args.links.now.rows c.see_sound.ensures.sound (one_link c.args.one) (one_link c.args.other) c.args.dart c.args.marks.now
    (one_link c.args.one) (one_link c.args.other) c.loop-middle.at c.entry.result c.in-Some.middle c.loop-middle.marks c.newly_marked.new.marks c.requires.places
    (c.entry.ensures ∙ c.live_row.ensures c.args.one) c.in-Some.ensures.some c.in-Some.ensures.marked c.loop-middle.invariant in
    marking-end g.K.Kind.kind g.row.DIM c.args.links.now.rows c.see_sound.ensures.sound (one_link c.args.one) (one_link c.args.other) c.args.dart c.args.marks.now
    (one_link c.args.other) (one_link c.args.one) c.in-Some.middle c.entry-in-Some.result c.newly_marked.new.marks c.newly_marked-in-Some.new.marks
    (c.entry-in-Some.ensures ∙ c.live_row-in-Some.ensures c.args.other) c.in-None.ensures.none c.in-None.ensures.same half

pub returns : goal.returns
returns g c =
    marking-end g.K.Kind.kind g.row.DIM c.args.links.now.rows c.see_sound.ensures.sound (one_link c.args.one) (one_link c.args.other) c.args.dart c.args.marks.now
    (one_link c.args.one) (one_link c.args.other) c.loop-middle.at c.entry.result c.loop-middle.marks c.newly_marked.new.marks
    (c.entry.ensures ∙ c.live_row.ensures c.args.one) c.in_default.ensures.none c.in_default.ensures.same c.loop-middle.invariant
