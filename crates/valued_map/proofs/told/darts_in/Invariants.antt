use Rattle.std.proofs.Common.{ℕ, ◌⊎◌, ◌↔◌, Contains}
use Rattle.valued_map.proofs.GroupedDarts.{InGroups}
use Rattle.valued_map.proofs.told.darts_in.Given as goal

abbrev pub invariant-loop-group : goal.invariant-loop-group
invariant-loop-group l = (d : ℕ) → Contains l.darts.items d ↔ (Contains l.renewed d ⊎ InGroups l.dim l.groups l.group-index d)
