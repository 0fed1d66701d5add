use Rattle.std.proofs.Common.{List, length, ap, arith}
use Rattle.std.specs.List.{sum_by}
use Rattle.flat_lists.proofs.CutLists.{sum-cut}
use Rattle.flat_lists.proofs.lists.Lists.item_count.Goals as goal

pub returns : goal.returns
returns g c =
    omega (
      arith,
      c.len.ensures,
      c.self.inside.items.ok.0,
      sum-cut 0 c.self.inside.items.items c.self.inside.ends.items _ (omega arith) c.self.invariant,
      ap (λ (lists : List (List g.row.T.Denot)). sum_by length lists) c.self.view_is,
    )
