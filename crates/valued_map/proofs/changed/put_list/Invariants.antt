use Rattle.std.proofs.Common.{ℕ, ◌≡◌, ◌≤◌, length, map}
use Rattle.store_defs.specs.Groups.{darts_in}
use Rattle.valued_map.proofs.changed.put_list.Given as goal

-- there are so many lists, and those behind the first ones have no darts
abbrev pub invariant-loop-place : goal.invariant-loop-place
invariant-loop-place l =
    (length l.lists.items ≡ l._place) × (l._place ≤ l.dim) × (length l.fn.lists.items ≤ l._place)
    × ((i : ℕ) → darts_in (map (λ ds. ds.items) l.lists.items) i ≡ darts_in (map (λ ds. ds.items) l.fn.lists.items) i)
