use Rattle.std.proofs.Common.{◌≡◌, ◌+◌, ◌-◌, ◌≤◌, length, take}
use Rattle.std.specs.Prelude.{vec_capacity}
use Rattle.dart_arena.specs.Layout.{IsFreed, keys_of, rows_under}
use Rattle.dart_arena.proofs.Gathering.{before}
use Rattle.dart_arena.proofs.gather.gather.Given as goal

abbrev pub invariant-loop-place : goal.invariant-loop-place
invariant-loop-place g l =
    (rows_under l.gathered l.keys.items ≡ take l.place (rows_under l.rows (keys_of l.places)))
    × IsFreed l.gathered l.keys.items (before (rows_under l.rows (keys_of l.places)) l.place) (l.live + l.room - before (rows_under l.rows (keys_of l.places)) l.place)
    × (length (keys_of l.places) + l.spare ≤ vec_capacity l.keys)
