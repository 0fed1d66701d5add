use Rattle.map_defs.specs.Rows.{Rows}
use Rattle.valued_map.specs.Changing.{IsFirstUnsettled, IsThenUnsettled}
use Rattle.valued_map.proofs.Adding.{added-then, on-ok}
use Rattle.valued_map.proofs.touched.add_along.Goals as goal

pub returns : goal.returns
returns g c =
    let rows : Rows = c.args.links.now.rows in
    on-ok c.add_at_second.result
    (added-then rows (IsFirstUnsettled g.K.Kind.kind g.row.DIM c.args.edit.now rows c.args.dim c.args.labels.now c.args.word c.args.change) (IsThenUnsettled g.K.Kind.kind g.row.DIM c.args.edit.now rows c.args.dim c.args.labels.now c.args.word c.args.change)
    c.args.touched.now.items c.add_at_first.new.touched.items c.add_at_second.new.touched.items c.in_ok-add_at_first.ensures)
    c.add_at_second.ensures
