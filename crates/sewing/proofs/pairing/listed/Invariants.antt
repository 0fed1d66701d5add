use Rattle.std.proofs.Common.{take}
use Rattle.sewing.specs.PairSteps.{IsListed}
use Rattle.sewing.proofs.pairing.listed.Given as goal

abbrev pub invariant-loop-triple : goal.invariant-loop-triple
invariant-loop-triple g l = IsListed g.K.Kind.kind (take l.triple-index l.triples) l.book
