use Rattle.std.proofs.Common.{◌≡◌, ◌∙◌}
use Rattle.row_laws.specs.Rows.{darts_of, Ascend}
use Rattle.row_laws.proofs.RowsAt.{no-place}
use Rattle.list_text.proofs.table.RowTable.place_of.Goals as goal

pub returns-in-Err-clause-none : goal.returns-in-Err-clause-none
returns-in-Err-clause-none c =
    let is : c.self.inside.darts.items ≡ darts_of c.args.self.now = rw (← c.self.view_is) c.self.invariant.0 in
    let up : Ascend c.args.self.now = rw (← c.self.view_is) c.self.invariant.1 in
    no-place c.args.self.now c.deref.result.now c.args.dart c.in-Err._place (c.deref.ensures.value ∙ is) up c.in-Err.ensures.position
