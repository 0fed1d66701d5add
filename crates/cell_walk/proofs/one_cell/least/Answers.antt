use Rattle.std.proofs.Common.{arith}
use Rattle.map_defs.specs.Cells.{here}
use Rattle.map_defs.specs.Rows.{links_of}
use Rattle.cell_walk.proofs.CellDarts.{cell-first}
use Rattle.cell_walk.proofs.one_cell.least.Goals as goal

pub index-requires : goal.index-requires
index-requires g c = omega (arith, ((c.in_ok-cell.ensures.members c.args.dart).1 here).1, c.in_ok-cell.field-0.ok.0)

pub returns-clause-member : goal.returns-clause-member
returns-clause-member g c =
    (cell-first g.K.Kind.kind (links_of c.args.links.now.rows) c.args.dim c.args.dart c.index.result.now c.in_ok-cell.field-0.items c.in_ok-cell.ensures.members c.in_ok-cell.ensures.ascending c.index.ensures).0

pub returns-clause-names : goal.returns-clause-names
returns-clause-names g c =
    (cell-first g.K.Kind.kind (links_of c.args.links.now.rows) c.args.dim c.args.dart c.index.result.now c.in_ok-cell.field-0.items c.in_ok-cell.ensures.members c.in_ok-cell.ensures.ascending c.index.ensures).1
