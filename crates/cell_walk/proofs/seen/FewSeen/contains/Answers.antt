use Rattle.std.proofs.Common.{take}
use Rattle.cell_walk.proofs.SeenDarts.{seen-first, list-lacks, seen-rest}
use Rattle.cell_walk.proofs.seen.FewSeen.contains.Goals as goal

pub returns-then-contains : goal.returns-then-contains
returns-then-contains c = (
  λ _. seen-first c.args.found.now c.args.dart c.contains-2.result c.contains-2.ensures.cases c.if-contains.true,
  λ _. c.if-contains.true,
)

pub returns-else-contains : goal.returns-else-contains
returns-else-contains c =
    seen-rest c.args.found.now c.args.self.now.more c.args.dart c.contains-else-contains.result c.contains-else-contains.ensures
    (list-lacks (take 16 c.args.found.now) c.args.dart c.contains-2.result c.contains-2.ensures.cases c.if-contains.false) c.requires
