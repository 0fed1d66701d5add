use Rattle.std.proofs.Common.{◌≡◌, ℕ, ◌+◌, ◌<◌, subst, sym, arith}
use Rattle.label_laws.specs.Lists.{AreListed, IsNamed}
use Rattle.label_laws.proofs.ListedValues.{BelowDimension, listed-behind}
use Rattle.valued_map.proofs.list.list_values.Goals as goal

pub loop-dim-preserved : goal.loop-dim-preserved
loop-dim-preserved g c =
    let k = g.K.Kind.kind in
    let (behind, is, are) = c.in_ok-list_dimension.ensures in
    subst (AreListed c.args.labels.now c.args.pool.now (BelowDimension k c.args.links.now.rows (c.loop-dim.dim + 1))) (sym is)
    (listed-behind k c.args.links.now.rows c.args.labels.now c.args.pool.now c.loop-dim.dim c.loop-dim.values.items behind c.loop-dim.invariant are)

pub returns : goal.returns
returns g c =
    let whole : c.loop-dim.dim ≡ g.row.DIM + 1 = omega (arith, c.dimension-dim-end.ensures.dimension) in
    subst (λ (m : ℕ). AreListed c.args.labels.now c.args.pool.now (λ i d. (i < m) × IsNamed g.K.Kind.kind c.args.links.now.rows i d) c.loop-dim.values.items) whole c.loop-dim.invariant
