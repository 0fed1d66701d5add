use Rattle.std.proofs.Common.{take, Contains}
use Rattle.map_defs.specs.Rows.{links_of}
use Rattle.map_defs.specs.Cells.{Leads}
use Rattle.cell_walk.proofs.ManyOrbits.{HoldsOrbits}
use Rattle.cell_walk.proofs.orbits.orbits_of.Given as goal

abbrev pub invariant-loop-dart : goal.invariant-loop-dart
invariant-loop-dart g l = HoldsOrbits (Leads (links_of l.links.rows) (Contains l.words)) (take l.dart-index l.darts) l.found
