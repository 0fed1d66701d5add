use Rattle.std.proofs.Common.{[], Contains, inr, arith}
use Rattle.map_defs.specs.Rows.{links_of}
use Rattle.cell_walk.proofs.Walks.{Contains-none, walked-none, walked-more, closed-none}
use Rattle.cell_walk.proofs.ManyOrbits.{found-whole}
use Rattle.map_defs.specs.Cells.{Leads}
use Rattle.cell_walk.proofs.search.reaches.Goals as goal

pub loop-next-init : goal.loop-next-init
loop-next-init g c =
    walked-none (links_of c.args.links.now.rows) (Contains c.args.words.now) c.args.one [] c.put.new.self (inr (Contains-none c.args.one, rw c.new-found.ensures at c.in_ok-put.ensures.added))

pub loop-next-preserved : goal.loop-next-preserved
loop-next-preserved g c =
    walked-more (links_of c.args.links.now.rows) (Contains c.args.words.now) c.args.one [] c.loop-next.next c.at.result c.loop-next.found c.visit.new.found
    (omega (arith, c.len.ensures)) c.at.ensures (closed-none (Leads (links_of c.args.links.now.rows) (Contains c.args.words.now))) c.loop-next.invariant c.in_ok-visit.ensures

pub returns : goal.returns
returns g c =
    let same = found-whole (links_of c.args.links.now.rows) (Contains c.args.words.now) c.args.one c.loop-next.next c.loop-next.found (omega (arith, c.len.ensures)) c.loop-next.invariant c.args.other in
    (λ known. same.0 (c.contains-2.ensures.0 known), λ o. c.contains-2.ensures.1 (same.1 o))
