use Rattle.std.proofs.Common.{◌≡◌, ℕ, ◌<◌, ◌≤◌, get_or}
use Rattle.dart_arena.specs.Layout.{keys_of}
use Rattle.dart_arena.proofs.arena.Arena.next_live.Given as goal

abbrev pub invariant-loop-place : goal.invariant-loop-place
invariant-loop-place g l = (p : ℕ) → p < l.place → l.after ≤ p → get_or (keys_of l.self-inside.places) p 0 ≡ 0
