use Rattle.std.proofs.Common.{◌≡◌, ◌+◌, drop}
use Rattle.map_defs.specs.Rows.{Rows, made, live_count}
use Rattle.valued_map.specs.Undoing.{rows_before, AreEditsTo}
use Rattle.valued_map.proofs.restore.links_forward.Given as goal

abbrev pub invariant-loop-step : goal.invariant-loop-step
invariant-loop-step g l =
    ((now : Rows) → l.fn.links.rows ≡ rows_before g.row.DIM l.steps now → AreEditsTo g.K.Kind.kind g.row.DIM now l.steps (live_count l.fn.links.rows + l.fn.links.room)
    → l.links.rows ≡ rows_before g.row.DIM (drop l.step-index l.steps) now)
    × (live_count l.links.rows + l.links.room ≡ live_count l.fn.links.rows + l.fn.links.room)
    × (made l.links.rows + l.links.spare ≡ made l.fn.links.rows + l.fn.links.spare)
