use Rattle.std.proofs.Common.{◌≡◌, ◌+◌, ◌-◌, ◌≤◌, ◌++◌, length, take, vec_len, vec_capacity}
use Rattle.link_rows.proofs.born.BornRows.push.Given as goal

abbrev pub invariant-loop-link : goal.invariant-loop-link
invariant-loop-link g l =
    (l.self-inside.numbers.items ≡ l.initial.self-inside.numbers.items ++ take l.link l.row)
    × (vec_len l.self-inside.numbers + (length l.row - l.link) ≤ vec_capacity l.self-inside.numbers)
    × (l.self-inside.first ≡ l.initial.self-inside.first) × (l.self-inside.width ≡ l.initial.self-inside.width)
    × (l.self-inside.count ≡ l.initial.self-inside.count) × (l.self-inside.back ≡ l.initial.self-inside.back)
