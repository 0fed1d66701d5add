use Rattle.store_defs.specs.Labelings.{id_of}
use Rattle.transport.specs.Gathered.{AreGathered, met_in, IsReady}
use Rattle.transport.proofs.pieces.pieces_of.Given as goal

abbrev pub invariant-loop-place : goal.invariant-loop-place
invariant-loop-place g l = record {
  gathered : AreGathered (id_of l.labels l.dim) l.cells l.place 0 (met_in l.met l.pieces.items l.place) l.pieces.items;
  ready : IsReady l.met l.pieces.items;
}
