use Rattle.std.proofs.Common.{nat_lt, arith}
use Rattle.std.proofs.lemmas.Bool.{le-ltb}
use Rattle.cell_walk.proofs.SeenDarts.{unmarked}
use Rattle.cell_walk.proofs.seen.MarksSeen.contains.Goals as goal

pub returns-else-place-len : goal.returns-else-place-len
returns-else-place-len c = unmarked c.args.self.now.marks.items c.args._found.now c.args.dart (nat_lt c.number-place.result c.len.result) (omega (arith, c.number-place.ensures.same, c.len.ensures, c.if-place-len.false, c.args.self.now.marks.ok.0)) (le-ltb c.number-place.result c.len.result c.if-place-len.false) c.requires
