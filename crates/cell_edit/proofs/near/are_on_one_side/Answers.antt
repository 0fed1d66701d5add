use Rattle.std.proofs.lemmas.Result.{IfOk-weaker}
use Rattle.map_defs.specs.Rows.{links_of}
use Rattle.cell_edit.proofs.FaceSteps.{one-side}
use Rattle.cell_edit.proofs.near.are_on_one_side.Goals as goal

pub returns : goal.returns
returns g c =
    IfOk-weaker c.leads.result _ _
    (λ leads same. let side = one-side (links_of c.args.links.now.rows) c.args.one c.args.other in
    (λ true. side.0 (same.0 true), λ among. same.1 (side.1 among)))
    c.leads.ensures
