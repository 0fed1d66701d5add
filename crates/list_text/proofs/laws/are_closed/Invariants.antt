use Rattle.std.proofs.Common.{ℕ, ◌<◌}
use Rattle.map_defs.specs.Kind.{IsDistant}
use Rattle.row_laws.specs.Rows.{IsClosedAt}
use Rattle.list_text.proofs.laws.are_closed.Given as goal

abbrev pub invariant-loop-other : goal.invariant-loop-other
invariant-loop-other g l = (j : ℕ) → l.link < j → j < l.other → IsDistant g.K.Kind.kind l.link j → IsClosedAt g.K.Kind.kind l.table l.link l.dart l.to j
