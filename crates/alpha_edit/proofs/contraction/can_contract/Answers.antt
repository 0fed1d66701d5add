use Rattle.std.proofs.Common.{◌≢◌, false, refl, arith}
use Rattle.map_defs.specs.Rows.{links_of}
use Rattle.alpha_edit.proofs.CellPlans.{vertex-never, above-tells}
use Rattle.alpha_edit.proofs.contraction.can_contract.Goals as goal

pub returns-in-0-clause-meets : goal.returns-in-0-clause-meets
returns-in-0-clause-meets g c = rw c.in-0.is (vertex-never (links_of c.args.links.now.rows) c.args.darts.now c.requires false refl)

pub returns-in_default-clause-meets : goal.returns-in_default-clause-meets
returns-in_default-clause-meets g c =
    let some : c.args.dim ≢ 0 = omega arith in
    let more : c.args.dim ≢ 1 = omega arith in
    above-tells (links_of c.args.links.now.rows) c.args.darts.now c.args.dim c.are_commuting.result some more c.are_commuting.ensures
