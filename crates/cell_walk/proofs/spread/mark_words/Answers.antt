use Rattle.std.proofs.Common.{ℕ, ◌≡◌, ◌+◌, ◌<◌, length, take, Contains, sym, subst, arith}
use Rattle.map_defs.specs.LinkWords.{LinkWord, IsWithin, through}
use Rattle.map_defs.specs.Rows.{links_of, IsLive}
use Rattle.cell_walk.proofs.RowSteps.{row-fits, word-low, word-lands}
use Rattle.cell_walk.proofs.QueuedDarts.{queued-more, queued-word, words-more}
use Rattle.cell_walk.proofs.spread.mark_words.Goals as goal

pub number_from-requires : goal.number_from-requires
number_from-requires g c =
    let within : IsWithin g.row.DIM c.word-item.result = subst (IsWithin g.row.DIM) (sym c.word-item.is) (c.requires.within c.loop-word.word-index c.word-item.result c.loop-word-test.true) in
    (omega arith, (row-fits g.row.DIM c.see_sound.ensures.high, (within, (c.args.dart, c.live_row-row.ensures))))

pub put-requires-clause-place : goal.put-requires-clause-place
put-requires-clause-place g c =
    let is : c.number_from.result ≡ through (links_of c.args.links.now.rows) c.word-item.result c.args.dart = c.number_from.ensures c.args.dart c.live_row-row.ensures in
    let low : c.number_from.result < length c.args.links.now.rows = subst (λ (m : ℕ). m < length c.args.links.now.rows) (sym is)
    (word-low g.K.Kind.kind g.row.DIM c.args.links.now.rows c.see_sound.ensures.sound c.see_sound.ensures.begun c.word-item.result c.args.dart) in
    omega (arith, low, c.requires.places, c.loop-word.invariant.places)

pub loop-word-preserved : goal.loop-word-preserved
loop-word-preserved g c =
    let is : c.number_from.result ≡ through (links_of c.args.links.now.rows) c.word-item.result c.args.dart = c.number_from.ensures c.args.dart c.live_row-row.ensures in
    let low : c.number_from.result < length c.args.links.now.rows = subst (λ (m : ℕ). m < length c.args.links.now.rows) (sym is)
    (word-low g.K.Kind.kind g.row.DIM c.args.links.now.rows c.see_sound.ensures.sound c.see_sound.ensures.begun c.word-item.result c.args.dart) in
    queued-more (links_of c.args.links.now.rows) (IsLive c.args.links.now.rows)
    (Contains (take c.loop-word.word-index c.args.words.now)) (λ (v : LinkWord). v ≡ c.word-item.result) (Contains (take (c.loop-word.word-index + 1) c.args.words.now)) c.args.dart
    c.args.marks.now c.loop-word.marks c.put.new.marks c.args.queue.now.items c.loop-word.queue.items c.put.new.darts.items
    (words-more c.args.words.now c.loop-word.word-index c.word-item.result c.loop-word-test.true c.word-item.is) c.loop-word.invariant
    (queued-word (links_of c.args.links.now.rows) (IsLive c.args.links.now.rows)
    c.word-item.result c.args.dart c.number_from.result c.loop-word.marks c.loop-word.queue.items c.put.new.marks c.put.new.darts.items is
    (λ real. word-lands g.K.Kind.kind g.row.DIM c.args.links.now.rows c.see_sound.ensures.sound c.word-item.result c.args.dart c.number_from.result (sym is) real)
    (omega (arith, low, c.requires.places, c.loop-word.invariant.places)) (c.loop-word.invariant.kept 0 c.requires.nothing)
    c.in_ok-put.ensures.known c.in_ok-put.ensures.new)
