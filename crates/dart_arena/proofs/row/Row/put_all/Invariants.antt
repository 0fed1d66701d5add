use Rattle.std.proofs.Common.{◌≡◌, ◌+◌, ◌<◌, ℕ, length, get_or}
use Rattle.dart_arena.proofs.row.Row.put_all.Given as goal

abbrev pub invariant-loop-link : goal.invariant-loop-link
invariant-loop-link g l = (length l.self ≡ g.row.DIM + 1) × ((j : ℕ) → j < l.link → get_or l.self j 0 ≡ get_or l.links j 0)
