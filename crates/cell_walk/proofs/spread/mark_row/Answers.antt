use Rattle.std.proofs.Common.{ℕ, ◌≡◌, ◌+◌, ◌<◌, false, get_or, length, IsTrue, ◌∙◌, subst, sym, arith}
use Rattle.map_defs.specs.LinkWords.{LinkWord, one_link}
use Rattle.map_defs.specs.Rows.{links_of, IsLive}
use Rattle.cell_walk.specs.Marks.{AreQueued}
use Rattle.cell_walk.specs.Sweeps.{IsAmong}
use Rattle.cell_walk.proofs.RowSteps.{word-low, word-lands}
use Rattle.cell_walk.proofs.QueuedDarts.{queued-none, queued-more, queued-if, among-more}
use Rattle.cell_walk.proofs.spread.mark_row.Goals as goal

pub loop-link-init : goal.loop-link-init
loop-link-init g c =
    queued-none (links_of c.args.links.now.rows) (IsLive c.args.links.now.rows) (IsAmong 0 (λ j. IsTrue (get_or c.args.wanted.now j false))) c.args.dart c.args.marks.now c.args.queue.now.items
    (λ w among. absurd (omega (arith, among.1)))

pub loop-link-preserved : goal.loop-link-preserved
loop-link-preserved g c =
    let is : c.entry.result ≡ links_of c.args.links.now.rows c.loop-link.link c.args.dart = c.entry.ensures ∙ c.live_row-row.ensures c.loop-link.link in
    let low : c.entry.result < length c.args.links.now.rows = subst (λ (m : ℕ). m < length c.args.links.now.rows) (sym is)
    (word-low g.K.Kind.kind g.row.DIM c.args.links.now.rows c.see_sound.ensures.sound c.see_sound.ensures.begun (one_link c.loop-link.link) c.args.dart) in
    queued-more (links_of c.args.links.now.rows) (IsLive c.args.links.now.rows)
    (IsAmong c.loop-link.link (λ j. IsTrue (get_or c.args.wanted.now j false)))
    (λ (w : LinkWord). IsTrue (get_or c.args.wanted.now c.loop-link.link false) × (w ≡ one_link c.loop-link.link))
    (IsAmong (c.loop-link.link + 1) (λ j. IsTrue (get_or c.args.wanted.now j false))) c.args.dart
    c.args.marks.now c.loop-link.marks c.put_if.new.marks c.args.queue.now.items c.loop-link.queue.items c.put_if.new.darts.items
    (among-more c.loop-link.link (λ j. IsTrue (get_or c.args.wanted.now j false))) c.loop-link.invariant
    (queued-if (links_of c.args.links.now.rows) (IsLive c.args.links.now.rows)
    (get_or c.args.wanted.now c.loop-link.link false) c.loop-link.link c.args.dart c.entry.result c.loop-link.marks c.loop-link.queue.items c.put_if.new.marks c.put_if.new.darts.items is
    (λ real. word-lands g.K.Kind.kind g.row.DIM c.args.links.now.rows c.see_sound.ensures.sound (one_link c.loop-link.link) c.args.dart c.entry.result (sym is) real)
    (omega (arith, low, c.requires.places, c.loop-link.invariant.places)) (c.loop-link.invariant.kept 0 c.requires.nothing)
    c.in_ok-put_if.ensures.known c.in_ok-put_if.ensures.new)

pub returns : goal.returns
returns g c =
    let last : c.loop-link.link ≡ g.row.DIM + 1 = omega (arith, c.loop-link-test.false, c.loop-link.auto.link-end, c.dimension-link-end.ensures.dimension) in
    subst (λ (n : ℕ). AreQueued (links_of c.args.links.now.rows) (IsLive c.args.links.now.rows) (IsAmong n (λ j. IsTrue (get_or c.args.wanted.now j false))) c.args.dart
    c.args.marks.now c.args.queue.now.items c.loop-link.marks c.loop-link.queue.items) last c.loop-link.invariant
