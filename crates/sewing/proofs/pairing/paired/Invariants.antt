use Rattle.std.proofs.Common.{◌-◌, Contains}
use Rattle.map_defs.specs.Rows.{links_of}
use Rattle.sewing.specs.Triples.{Lists}
use Rattle.sewing.proofs.PairWalks.{IsWalked}
use Rattle.sewing.proofs.pairing.paired.Given as goal

abbrev pub invariant-loop-next : goal.invariant-loop-next
invariant-loop-next g l = IsWalked g.K.Kind.kind (links_of l.links.rows) (Contains l.set) (Lists l.seeds) l.next l.book

abbrev pub decreases-loop-next : goal.decreases-loop-next
decreases-loop-next g l = 18446744073709551616 - l.next
