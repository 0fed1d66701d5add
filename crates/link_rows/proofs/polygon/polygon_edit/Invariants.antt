use Rattle.std.proofs.Common.{◌≡◌, ◌+◌, None}
use Rattle.std.specs.List.{flat_map, range_with_len}
use Rattle.map_defs.specs.Polygon.{side_rows}
use Rattle.link_rows.proofs.polygon.polygon_edit.Given as goal

abbrev pub invariant-loop-side : goal.invariant-loop-side
invariant-loop-side g l =
    l.born ≡ record {
      first = l.first;
      width = g.row.DIM + 1;
      rows = flat_map (side_rows g.K.Kind.kind g.row.DIM l.first l.sides) (range_with_len 0 l.side);
      back = None;
    }
