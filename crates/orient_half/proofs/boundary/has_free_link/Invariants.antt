use Rattle.std.proofs.Common.{ℕ, ◌≢◌, ◌<◌}
use Rattle.std.specs.Prelude.{slice_index}
use Rattle.orient_half.proofs.boundary.has_free_link.Given as goal

abbrev pub invariant-loop-link : goal.invariant-loop-link
invariant-loop-link g l = (i : ℕ) → i < l.link → slice_index l.row i ≢ 0
