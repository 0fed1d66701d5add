use Rattle.std.proofs.Common.{◌≡◌, ℕ}
use Rattle.transport.specs.Tallies.{count_of}
use Rattle.transport.specs.Pieces.{has_id, count_below, AreMerged}
use Rattle.transport.proofs.merging.merge_many.Given as goal

abbrev pub invariant-loop-piece : goal.invariant-loop-piece
invariant-loop-piece g l =
    AreMerged (g.R.Rule.meaning l.rule) l.pool l.pieces l.piece-index l.initial.cells.items l.cells.items × ((id : ℕ) → count_of l.before id ≡ count_below (has_id l.pieces id) l.piece-index)
