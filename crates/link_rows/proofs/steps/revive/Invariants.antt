use Rattle.std.proofs.Common.{◌≡◌, ◌-◌, length, drop, None}
use Rattle.std.specs.List.{AllWithin}
use Rattle.dart_arena.specs.Stock.{row_at}
use Rattle.map_defs.specs.Edits.{revived}
use Rattle.link_rows.proofs.steps.revive.Given as goal

abbrev pub invariant-loop-index : goal.invariant-loop-index
invariant-loop-index g l =
    (l.rows.rows ≡ revived g.row.DIM (drop l.index l.darts) l.fn.rows.rows)
    × (l.rows.spare ≡ l.fn.rows.spare) × (l.rows.room ≡ l.fn.rows.room - (length l.darts - l.index))
    × AllWithin (λ d. row_at l.rows d ≡ None) l.darts 0 l.index
