use Rattle.store_defs.specs.Labelings.{id_of}
use Rattle.transport.specs.Gathered.{AreGathered, met_in, IsReady}
use Rattle.transport.proofs.pieces.add_pieces.Given as goal

abbrev pub invariant-loop-dart : goal.invariant-loop-dart
invariant-loop-dart g l = record {
  gathered : AreGathered (id_of l.labels l.dim) l.cells l.place l.dart-index (met_in l.met l.pieces.items l.place) l.pieces.items;
  ready : IsReady l.met l.pieces.items;
}
