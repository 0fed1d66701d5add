use Rattle.std.proofs.Common.{◌≡◌, ◌<◌, length, get_or, sym, ◌∙◌, lit<, arith}
use Rattle.std.proofs.lemmas.List.{get_or_default}
use Rattle.map_defs.specs.Rows.{links_of, IsLive}
use Rattle.orient_half.proofs.Spreading.{spread-none, spread-more, spread-all, spread-clash}
use Rattle.orient_half.proofs.WholeLinks.{rows-whole}
use Rattle.orient_half.proofs.search.spread.Goals as goal

pub loop-next-init : goal.loop-next-init
loop-next-init g c =
    rw (c.in_ok-restart.ensures.marks, c.in_ok-restart.ensures.queue)
    (spread-none g.row.DIM (IsLive c.args.links.now.rows) (links_of c.args.links.now.rows) c.args.first c.args.search.now.marks.items c.requires.live c.requires.fresh c.requires.before)

pub visit-requires : goal.visit-requires
visit-requires g c =
    let low : c.loop-next.next < length c.loop-next.search.queue.items = omega (arith, c.len.ensures) in
    (lit< tt, (c.requires.closed, (c.loop-next.invariant.search.held, (c.loop-next.invariant.queued, (c.loop-next.next, low, sym c.index-dart.ensures)))))

pub returns-in-Some : goal.returns-in-Some
returns-in-Some g c =
    let clash = rw c.in-Some.is at c.in_ok-link.ensures.clash in
    spread-clash g.row.DIM (IsLive c.args.links.now.rows) (links_of c.args.links.now.rows) c.args.first c.args.search.now.marks.items c.loop-next.next
    c.loop-next.search.marks.items c.visit.new.search.marks.items c.loop-next.search.queue.items c.visit.new.search.queue.items c.index-dart.result.now c.in-Some.link
    c.loop-next.invariant c.in_ok-link.ensures.grown clash.0 clash.1

pub loop-next-preserved : goal.loop-next-preserved
loop-next-preserved g c =
    let low : c.loop-next.next < length c.loop-next.search.queue.items = omega (arith, c.len.ensures) in
    let at : c.index-dart.result.now ≡ get_or c.loop-next.search.queue.items c.loop-next.next 0 =
    c.index-dart.ensures ∙ get_or_default c.loop-next.search.queue.items c.loop-next.next c.index-dart.result.now 0 low in
    let flips = rw c.in_default.is at c.in_ok-link.ensures.clash in
    spread-more g.row.DIM (IsLive c.args.links.now.rows) (links_of c.args.links.now.rows) c.args.first c.args.search.now.marks.items c.loop-next.next c.index-dart.result.now
    c.loop-next.search.marks.items c.visit.new.search.marks.items c.loop-next.search.queue.items c.visit.new.search.queue.items
    low at c.loop-next.invariant c.in_ok-link.ensures.grown flips

pub returns : goal.returns
returns g c =
    spread-all g.row.DIM (IsLive c.args.links.now.rows) (links_of c.args.links.now.rows) c.args.first c.args.search.now.marks.items
    (rows-whole g.row.DIM c.args.links.now.rows c.see_sound.ensures.sound c.requires.closed) c.loop-next.next c.loop-next.search.marks.items c.loop-next.search.queue.items
    c.requires.live (omega (arith, c.len.ensures)) c.requires.before c.loop-next.invariant
