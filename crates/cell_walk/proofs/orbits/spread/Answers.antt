use Rattle.std.proofs.Common.{Contains, inr, arith}
use Rattle.map_defs.specs.Rows.{links_of}
use Rattle.cell_walk.proofs.Walks.{walked-none, walked-more, walked-all}
use Rattle.cell_walk.proofs.orbits.spread.Goals as goal

pub loop-next-init : goal.loop-next-init
loop-next-init g c =
    rw c.len-next.ensures
    (walked-none (links_of c.args.links.now.rows) (Contains c.args.words.now) c.args.dart c.args.found.now c.put.new.self (inr (c.requires.fresh, c.in_ok-put.ensures.added)))

pub loop-next-preserved : goal.loop-next-preserved
loop-next-preserved g c =
    walked-more (links_of c.args.links.now.rows) (Contains c.args.words.now) c.args.dart c.args.found.now c.loop-next.next c.at.result c.loop-next.found c.visit.new.found
    (omega (arith, c.len.ensures)) c.at.ensures c.requires.closed c.loop-next.invariant c.in_ok-visit.ensures

pub returns-clause-members : goal.returns-clause-members
returns-clause-members g c =
    walked-all (links_of c.args.links.now.rows) (Contains c.args.words.now) c.args.dart c.args.found.now c.loop-next.next c.loop-next.found
    (omega (arith, c.len.ensures)) c.requires.closed c.loop-next.invariant

pub returns-clause-before : goal.returns-clause-before
returns-clause-before g c = c.loop-next.invariant.before
