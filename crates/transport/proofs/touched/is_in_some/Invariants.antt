use Rattle.std.proofs.Common.{ℕ, ◌<◌, Contains}
use Rattle.store_defs.specs.Groups.{group_at}
use Rattle.transport.proofs.touched.is_in_some.Given as goal

abbrev pub invariant-loop-cell : goal.invariant-loop-cell
invariant-loop-cell l = (m : ℕ) → m < l.cell-index → Contains (group_at l.cells m).darts l.dart → ⊥
