use Rattle.std.proofs.Common.{◌+◌, ◌≤◌, ◌⊎◌}
use Rattle.map_kind.proofs.Around.{AreBelow}
use Rattle.map_kind.proofs.beta.vertex_words.Given as goal

abbrev pub invariant-loop-far : goal.invariant-loop-far
invariant-loop-far l = AreBelow l.far l.words.items × ((l.far ≤ l.dim + 1) ⊎ (l.far ≤ 2))
