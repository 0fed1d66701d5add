use Rattle.std.proofs.Common.{Contains, inr, arith}
use Rattle.map_defs.specs.Rows.{links_of}
use Rattle.cell_walk.proofs.Walks.{walked-none, walked-more, walked-all}
use Rattle.cell_walk.proofs.orbits.spread_links.Goals as goal

pub loop-place-init : goal.loop-place-init
loop-place-init g c =
    rw c.len-place.ensures
    (walked-none (links_of c.args.links.now.rows) (Contains c.args.words.now) c.args.dart c.args.found.now c.put.new.self (inr (c.requires.fresh, c.in_ok-put.ensures.added)))

pub loop-place-preserved : goal.loop-place-preserved
loop-place-preserved g c =
    walked-more (links_of c.args.links.now.rows) (Contains c.args.words.now) c.args.dart c.args.found.now c.loop-place.place c.at.result c.loop-place.found c.visit_links.new.found
    (omega (arith, c.len.ensures)) c.at.ensures c.requires.closed c.loop-place.invariant c.in_ok-visit_links.ensures

pub returns-clause-members : goal.returns-clause-members
returns-clause-members g c =
    walked-all (links_of c.args.links.now.rows) (Contains c.args.words.now) c.args.dart c.args.found.now c.loop-place.place c.loop-place.found
    (omega (arith, c.len.ensures)) c.requires.closed c.loop-place.invariant

pub returns-clause-before : goal.returns-clause-before
returns-clause-before g c = c.loop-place.invariant.before
