use Rattle.std.proofs.Common.{◌≡◌}
use Rattle.transport.specs.Pieces.{has_id, count_below}
use Rattle.transport.proofs.merging.count_before.Given as goal

abbrev pub invariant-loop-place : goal.invariant-loop-place
invariant-loop-place l = l.count ≡ count_below (has_id l.pieces l.id) l.place
