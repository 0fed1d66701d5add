use Rattle.std.proofs.Common.{◌≡◌, ◌++◌, ◌+◌, ◌≤◌, true, length, replicate}
use Rattle.std.specs.Prelude.{vec_capacity}
use Rattle.dart_arena.specs.Layout.{is_in_order}
use Rattle.dart_arena.proofs.places.Places.push_in_order.Given as goal

abbrev pub invariant-loop-birth : goal.invariant-loop-birth
invariant-loop-birth l =
    (is_in_order l.self ≡ true) × (l.self.live.items ≡ l.fn.self.live.items ++ replicate l._birth true)
    × (vec_capacity l.self.live ≡ vec_capacity l.fn.self.live) × (length l.fn.self.live.items + l.births ≤ vec_capacity l.fn.self.live)
