use Rattle.std.proofs.Common.{◌≤◌, refl, arith}
use Rattle.map_defs.specs.Rows.{links_of, made}
use Rattle.map_defs.specs.Cells.{InCell}
use Rattle.valued_map.proofs.LiveDarts.{cell-made}
use Rattle.valued_map.proofs.ListedValues.{cell-olds}
use Rattle.valued_map.proofs.told.cell_values.Goals as goal

pub returns : goal.returns
returns g c =
    let all = rw (c.in_ok-add_values.was, c.new-values.ensures.items, c.deref.ensures.value) at c.add_values.ensures in
    let added = all c.args.labels.now (λ d here. (
      (λ low. refl),
      λ high. (let low : d ≤ made c.args.links.now.rows = cell-made g.K.Kind.kind g.row.DIM c.args.links.now.rows c.made.ensures.sound c.args.dim c.args.dart c.requires.live ((c.in_ok-darts.ensures.members d).0 here) in
          absurd (omega (arith, c.made.ensures.made))),
    )) in
    cell-olds c.args.labels.now c.args.pool.now c.args.dim c.in_ok-darts.darts.items (InCell g.K.Kind.kind (links_of c.args.links.now.rows) c.args.dim c.args.dart)
    c.add_values.new.values.items c.in_ok-darts.ensures.ascending c.in_ok-darts.ensures.members added
