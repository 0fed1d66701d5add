use Rattle.std.proofs.Common.{inl}
use Rattle.map_defs.specs.Kind.{alpha}
use Rattle.map_defs.specs.Cells.{here}
use Rattle.map_defs.specs.Insertion.{IsInsertable, AlphaEdgeDarts, AlphaEdgePairs}
use Rattle.insert_laws.proofs.AlphaInsert.{alpha_edge_can}
use Rattle.back_laws.proofs.TakenBack.{alpha_removable, alpha_back}
use Rattle.back_laws.proofs.GrownFrom.{alpha_edge_grows}
use Rattle.back_laws.proofs.removal_undoes_edge_of_alpha.Goals as goal

pub returns-clause-possible : goal.returns-clause-possible
returns-clause-possible c d e x star L N w hd he good fresh s h =
    let can : IsInsertable alpha 1 (AlphaEdgeDarts L d e) (AlphaEdgePairs L d e) L = alpha_edge_can L d e hd he good in
    alpha_removable 1 (AlphaEdgeDarts L d e) (AlphaEdgePairs L d e) star L w can fresh N s d (inl here) (alpha_edge_grows L d e he can) x h

pub returns-clause-back : goal.returns-clause-back
returns-clause-back c d e x star L N M w hd he good fresh s h r =
    let can : IsInsertable alpha 1 (AlphaEdgeDarts L d e) (AlphaEdgePairs L d e) L = alpha_edge_can L d e hd he good in
    alpha_back 1 (AlphaEdgeDarts L d e) (AlphaEdgePairs L d e) star L w can fresh N s d (inl here) (alpha_edge_grows L d e he can) x h M r
