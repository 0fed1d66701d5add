use Rattle.std.proofs.Common.{◌≡◌, ◌+◌, drop}
use Rattle.map_defs.specs.Rows.{made, live_count}
use Rattle.valued_map.specs.Undoing.{rows_before}
use Rattle.valued_map.proofs.restore.links_back.Given as goal

abbrev pub invariant-loop-index : goal.invariant-loop-index
invariant-loop-index g l =
    (l.links.rows ≡ rows_before g.row.DIM (drop l.index l.steps) l.fn.links.rows)
    × (live_count l.links.rows + l.links.room ≡ live_count l.fn.links.rows + l.fn.links.room)
    × (made l.links.rows + l.links.spare ≡ made l.fn.links.rows + l.fn.links.spare)
