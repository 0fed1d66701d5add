use Rattle.std.proofs.Common.{sym, ap, ◌∙◌, Some, rules}
use Rattle.machine_defs.specs.Listing.{ListRow}
use Rattle.row_laws.specs.Rows.{Ascend}
use Rattle.row_laws.proofs.RowsAt.{row-found, row-missing}
use Rattle.list_text.proofs.table.RowTable.links_of.Goals as goal

pub returns-in_err-place : goal.returns-in_err-place
returns-in_err-place c =
    rw c.from_residual.ensures (sym (row-missing c.args.self.now c.args.dart (rw c.from.ensures at c.in_err-place.ensures.none)))

pub returns : goal.returns
returns c =
    let up : Ascend c.args.self.now = rw (← c.self.view_is) c.self.invariant.1 in
    let found = row-found c.args.self.now c.args.dart c.in_ok-place.place c.index-rows-place.result up c.in_ok-place.ensures.within (c.in_ok-place.ensures.found ∙ c.from.ensures) (search rules) in
    rw c.as_slice.ensures.value (ap (λ (r : ListRow). Some r.links) c.row.view_is ∙ sym found)
