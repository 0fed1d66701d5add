use Rattle.map_defs.specs.Kind.{beta}
use Rattle.map_defs.specs.Rows.{links_of}
use Rattle.map_defs.specs.Laws.{Laws}
use Rattle.link_calls.proofs.beta_maps.sew_pairs.Given as goal

abbrev pub invariant-loop-pair : goal.invariant-loop-pair
invariant-loop-pair g l = Laws beta (links_of l.links.rows)
