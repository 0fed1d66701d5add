use Rattle.std.proofs.Common.{take}
use Rattle.map_defs.specs.Rows.{links_of}
use Rattle.sewing.specs.PairSteps.{IsStepped}
use Rattle.sewing.proofs.PairWalks.{IsFollowed}
use Rattle.sewing.proofs.pairing.visit.Given as goal

abbrev pub invariant-loop-link : goal.invariant-loop-link
invariant-loop-link g l = IsStepped g.K.Kind.kind (links_of l.links.rows) (IsFollowed g.K.Kind.kind l.set (take l.link-index l.set)) l.triple l.fn.book l.book
