use Rattle.std.proofs.Common.{length, ap, arith}
use Rattle.flat_lists.proofs.CutLists.{length-cut}
use Rattle.flat_lists.proofs.lists.Lists.len.Goals as goal

pub returns : goal.returns
returns g c = omega (arith, c.len.ensures, c.self.inside.ends.ok.0, length-cut 0 c.self.inside.items.items c.self.inside.ends.items, ap length c.self.view_is)
