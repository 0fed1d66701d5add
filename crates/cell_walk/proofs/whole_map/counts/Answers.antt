use Rattle.std.proofs.Common.{arith}
use Rattle.map_defs.specs.Cells.{NamesCell, NamesComponent}
use Rattle.map_defs.specs.Rows.{links_of, IsLive}
use Rattle.cell_walk.proofs.Counting.{counted, counted-more, counted-all}
use Rattle.cell_walk.proofs.whole_map.counts.Goals as goal

pub loop-dim-preserved : goal.loop-dim-preserved
loop-dim-preserved g c =
    rw c.in_ok-push-2.ensures.items
    (counted-more g.K.Kind.kind c.args.links.now.rows c.loop-dim.dim c.len.result c.loop-dim.counts.items
    (counted (λ d. IsLive c.args.links.now.rows d × NamesCell g.K.Kind.kind (links_of c.args.links.now.rows) c.loop-dim.dim d) c.in_ok-cells.cells.items c.len.result
    c.in_ok-cells.ensures.members c.in_ok-cells.ensures.ascending (omega (arith, c.len.ensures, c.in_ok-cells.cells.ok.0)))
    c.loop-dim.invariant)

pub returns : goal.returns
returns g c =
    rw c.in_ok-push-3.ensures.items
    (counted-all g.K.Kind.kind g.row.DIM c.args.links.now.rows c.loop-dim.dim c.len-2.result c.loop-dim.counts.items (omega (arith, c.dimension-dim-end.ensures.dimension))
    (counted (λ d. IsLive c.args.links.now.rows d × NamesComponent (links_of c.args.links.now.rows) d) c.in_ok-components.components.items c.len-2.result
    c.in_ok-components.ensures.members c.in_ok-components.ensures.ascending (omega (arith, c.len-2.ensures, c.in_ok-components.components.ok.0)))
    c.loop-dim.invariant)
