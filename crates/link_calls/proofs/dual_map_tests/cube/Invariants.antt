use Rattle.map_defs.specs.Kind.{alpha}
use Rattle.map_defs.specs.Rows.{links_of}
use Rattle.map_defs.specs.Laws.{Laws}
use Rattle.link_calls.proofs.dual_map_tests.cube.Given as goal

abbrev pub invariant-loop-square : goal.invariant-loop-square
invariant-loop-square g l = Laws alpha (links_of l.links.rows)
