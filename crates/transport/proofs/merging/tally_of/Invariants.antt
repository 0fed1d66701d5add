use Rattle.std.proofs.Common.{◌≡◌, ℕ}
use Rattle.transport.specs.Tallies.{count_of}
use Rattle.transport.specs.Pieces.{has_id, count_below}
use Rattle.transport.proofs.merging.tally_of.Given as goal

abbrev pub invariant-loop-piece : goal.invariant-loop-piece
invariant-loop-piece l = (id : ℕ) → count_of l.tally id ≡ count_below (has_id l.pieces id) l.piece-index
