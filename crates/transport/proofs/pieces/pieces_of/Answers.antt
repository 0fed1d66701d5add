use Rattle.std.proofs.Common.{rules, arith}
use Rattle.std.proofs.lemmas.List.Sorted.{IsNonDecreasingBy-from_sort_by_key}
use Rattle.transport.specs.declared.pieces.Piece.{Piece}
use Rattle.transport.proofs.Gathering.{gathered_sorted}
use Rattle.transport.proofs.pieces.pieces_of.Goals as goal

pub returns : goal.returns
returns g c =
    gathered_sorted _ _ _ _ _ _ (omega arith) c.loop-place.invariant.gathered c.sort_unstable_by_key.ensures.permutation
    (IsNonDecreasingBy-from_sort_by_key (λ (p : Piece). p.dart) _ c.sort_unstable_by_key.ensures.sorted (λ a r q k. search rules))
