use Rattle.std.proofs.Common.{◌≡◌}
use Rattle.dart_arena.specs.Layout.{is_in_order, keys_of, rows_under, first_turned, IsArranged}
use Rattle.dart_arena.proofs.arena.Arena.reverse_rows.Given as goal

abbrev pub invariant-loop-place : goal.invariant-loop-place
invariant-loop-place g l =
    IsArranged (is_in_order l.initial.self-inside.places) g.row.DIM l.self-inside.rows (keys_of l.initial.self-inside.places) l.initial.self-inside.count l.initial.self-inside.spare l.initial.self-inside.room
    × (rows_under l.self-inside.rows (keys_of l.initial.self-inside.places) ≡ first_turned l.place (rows_under l.initial.self-inside.rows (keys_of l.initial.self-inside.places)))
    × (l.self-inside.places ≡ l.initial.self-inside.places)
    × (l.self-inside.count ≡ l.initial.self-inside.count)
    × (l.self-inside.spare ≡ l.initial.self-inside.spare)
    × (l.self-inside.room ≡ l.initial.self-inside.room)
