use Rattle.map_defs.specs.Kind.{alpha}
use Rattle.map_defs.specs.Cells.{InCell, here}
use Rattle.map_defs.specs.Insertion.{NoPairs, IsInsertable}
use Rattle.insert_laws.proofs.AlphaInsert.{alpha_vertex_can}
use Rattle.back_laws.proofs.TakenBack.{alpha_removable, alpha_back}
use Rattle.back_laws.proofs.GrownFrom.{alpha_vertex_grows}
use Rattle.back_laws.proofs.removal_undoes_vertex_of_alpha.Goals as goal

pub returns-clause-possible : goal.returns-clause-possible
returns-clause-possible c d x star L N w hd fresh s h =
    let can : IsInsertable alpha 0 (InCell alpha L 1 d) NoPairs L = alpha_vertex_can L d hd in
    alpha_removable 0 (InCell alpha L 1 d) NoPairs star L w can fresh N s d here (alpha_vertex_grows L d can) x h

pub returns-clause-back : goal.returns-clause-back
returns-clause-back c d x star L N M w hd fresh s h r =
    let can : IsInsertable alpha 0 (InCell alpha L 1 d) NoPairs L = alpha_vertex_can L d hd in
    alpha_back 0 (InCell alpha L 1 d) NoPairs star L w can fresh N s d here (alpha_vertex_grows L d can) x h M r
