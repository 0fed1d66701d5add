use Rattle.std.proofs.Common.{◌≡◌, ◌+◌, ◌≤◌, length, take}
use Rattle.std.specs.Prelude.{vec_capacity}
use Rattle.dart_arena.specs.Layout.{keys_of}
use Rattle.dart_arena.proofs.places.copy_keys.Given as goal

abbrev pub invariant-loop-place : goal.invariant-loop-place
invariant-loop-place l =
    (l.keys.items ≡ take l.place (keys_of l.places)) × (length (keys_of l.places) + l.births ≤ vec_capacity l.keys)
