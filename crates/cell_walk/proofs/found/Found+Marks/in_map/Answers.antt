use Rattle.std.proofs.Common.{ℕ, List, Contains, ◌↔◌}
use Rattle.cell_walk.specs.Marks.{IsMarked}
use Rattle.cell_walk.proofs.FoundDarts.{listed-none}
use Rattle.cell_walk.proofs.found.Found+Marks.in_map.Goals as goal

pub invariant_of-result : goal.invariant_of-result
invariant_of-result c =
    listed-none (λ (found : List ℕ). (d : ℕ) → IsMarked c.in_ok-new.field-0.marks.items d ↔ Contains found d)
    c.in_ok-with_capacity.field-0.items c.in_ok-new.ensures c.in_ok-with_capacity.ensures.items
