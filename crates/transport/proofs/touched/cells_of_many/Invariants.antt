use Rattle.std.proofs.Common.{◌≡◌}
use Rattle.map_defs.specs.Rows.{links_of}
use Rattle.map_defs.specs.Cells.{InCell}
use Rattle.transport.specs.Found.{AreFound}
use Rattle.transport.proofs.touched.cells_of_many.Given as goal

abbrev pub invariant-loop-place : goal.invariant-loop-place
invariant-loop-place g l = record {
  found : AreFound (InCell g.K.Kind.kind (links_of l.links.rows) l.dim) l.dim l.place l.wanted l.cells.items;
  same : l.wanted.darts ≡ l.initial.wanted.darts;
}
