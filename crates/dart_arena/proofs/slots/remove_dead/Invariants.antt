use Rattle.std.proofs.Common.{◌≡◌, ◌≢◌, ℕ, ◌+◌, ◌≤◌, take}
use Rattle.slab.specs.Slab.{get, slab_len}
use Rattle.dart_arena.specs.Layout.{keys_of, key_at, count_keys}
use Rattle.dart_arena.proofs.slots.remove_dead.Given as goal

abbrev pub invariant-loop-place : goal.invariant-loop-place
invariant-loop-place g l =
    (slab_len l.rows + l.place ≡ slab_len l.fn.rows + count_keys (take l.place (keys_of l.places)))
    × ((place : ℕ) → l.place ≤ place → get l.rows place ≡ get l.fn.rows place)
    × ((place : ℕ) → key_at (keys_of l.places) place ≢ 0 → get l.rows place ≡ get l.fn.rows place)
    × (l.rows.capacity ≡ l.fn.rows.capacity)
