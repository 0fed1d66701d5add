use Rattle.std.proofs.Common.{◌≡◌, length}
use Rattle.map_defs.specs.Rows.{links_of}
use Rattle.map_defs.specs.Cells.{InCell}
use Rattle.transport.specs.Found.{AreMarkedFound}
use Rattle.transport.proofs.touched.cells_of_near.Given as goal

abbrev pub invariant-loop-place : goal.invariant-loop-place
invariant-loop-place g l = record {
  found : AreMarkedFound (InCell g.K.Kind.kind (links_of l.links.rows) l.dim) l.dim l.place l.touched l.marks l.cells.items;
  size : length l.marks.marks ≡ length l.initial.marks.marks;
}
