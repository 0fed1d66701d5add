use Rattle.std.proofs.Common.{ℕ, ◌≡◌, ◌≢◌, ◌+◌, ◌<◌, ◌≤◌, ◌++◌, length, take, get_or, slice_index}
use Rattle.std.specs.Prelude.{vec_len, vec_capacity}
use Rattle.sewing.specs.Triples.{Triple}
use Rattle.cell_edit.specs.Stars.{star_of}
use Rattle.cell_edit.proofs.PairEntries.{pair_changes}
use Rattle.cell_edit.proofs.insertion.push_pairs.Given as goal

abbrev pub invariant-loop-pair : goal.invariant-loop-pair
invariant-loop-pair l =
    (l.changes.items ≡ l.initial.changes.items ++ pair_changes (star_of l.stars) (take l.pair-index l.pairs))
    × (vec_capacity l.changes ≡ vec_capacity l.initial.changes) × (vec_len l.changes ≡ vec_len l.initial.changes + l.pair-index)
    × ((i : ℕ) → l.pair-index ≤ i → i < length l.pairs → (d : Triple) (p : ℕ) → p < l.place → slice_index l.stars.keys p ≢ (get_or l.pairs i d).x)
