use Rattle.map_defs.specs.Rows.{links_of, IsLive}
use Rattle.map_defs.specs.Cells.{NamesCell}
use Rattle.cell_walk.proofs.EdgeDarts.{AreListed}
use Rattle.cell_walk.proofs.edges.surface_edges.Given as goal

abbrev pub invariant-loop-number : goal.invariant-loop-number
invariant-loop-number g l = AreListed (λ d. IsLive l.links.rows d × NamesCell g.K.Kind.kind (links_of l.links.rows) 1 d) l.number l.least.items
