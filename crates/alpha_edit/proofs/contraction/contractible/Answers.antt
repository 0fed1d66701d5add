use Rattle.std.proofs.Common.{lit<}
use Rattle.map_defs.specs.Rows.{links_of}
use Rattle.map_defs.specs.Cells.{here}
use Rattle.alpha_edit.proofs.CellPlans.{some-listed, contractible-tells}
use Rattle.alpha_edit.proofs.contraction.contractible.Goals as goal

pub can_contract-requires : goal.can_contract-requires
can_contract-requires g c = rw c.deref.ensures.value (lit< tt, some-listed c.in_ok-darts.darts.items c.args.dart ((c.in_ok-darts.ensures.members c.args.dart).1 here))

pub returns : goal.returns
returns g c = contractible-tells (links_of c.args.links.now.rows) c.args.dart c.in_ok-darts.darts.items c.args.dim c.can_contract.result c.in_ok-darts.ensures.members (rw c.deref.ensures.value at c.can_contract.ensures.meets)
