use Rattle.map_defs.specs.Rows.{links_of}
use Rattle.map_defs.specs.Cells.{InCell}
use Rattle.valued_map.proofs.settled.turns_to.Given as goal

abbrev pub invariant-loop-turn : goal.invariant-loop-turn
invariant-loop-turn g l = InCell g.K.Kind.kind (links_of l.links.rows) l.dim l.fn.from l.at
