use Rattle.map_defs.specs.Kind.{beta}
use Rattle.map_defs.specs.Rows.{links_of}
use Rattle.map_defs.specs.Laws.{Laws}
use Rattle.link_calls.proofs.dual_map_tests.four_triangles.Given as goal

abbrev pub invariant-loop-triangle : goal.invariant-loop-triangle
invariant-loop-triangle g l = Laws beta (links_of l.links.rows)

abbrev pub invariant-loop-link : goal.invariant-loop-link
invariant-loop-link g l = Laws beta (links_of l.links.rows)
