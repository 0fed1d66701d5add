use Rattle.std.proofs.Common.{◌≡◌, drop}
use Rattle.map_defs.specs.Edits.{unlinked}
use Rattle.link_rows.proofs.steps.unlink.Given as goal

abbrev pub invariant-loop-index : goal.invariant-loop-index
invariant-loop-index g l =
    (l.rows.rows ≡ unlinked (drop l.index l.changes) l.fn.rows.rows)
    × (l.rows.spare ≡ l.fn.rows.spare) × (l.rows.room ≡ l.fn.rows.room)
