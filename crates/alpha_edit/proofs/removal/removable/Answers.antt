use Rattle.map_defs.specs.Rows.{links_of}
use Rattle.alpha_edit.proofs.CellPlans.{removable-tells}
use Rattle.alpha_edit.proofs.removal.removable.Goals as goal

pub returns : goal.returns
returns g c = removable-tells (links_of c.args.links.now.rows) c.args.dart c.in_ok-darts.darts.items c.args.dim c.are_commuting.result c.in_ok-darts.ensures.members (rw c.deref.ensures.value at c.are_commuting.ensures)
