use Rattle.std.proofs.Common.{take, Contains}
use Rattle.map_defs.specs.Rows.{links_of}
use Rattle.cell_walk.specs.Visits.{IsVisited}
use Rattle.cell_walk.proofs.orbits.visit.Given as goal

abbrev pub invariant-loop-word : goal.invariant-loop-word
invariant-loop-word g l = IsVisited (links_of l.links.rows) (Contains (take l.word-index l.words)) l.fn.dart l.initial.found l.found
