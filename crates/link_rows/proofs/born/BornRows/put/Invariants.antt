use Rattle.std.proofs.Common.{[], ◌≡◌, ◌*◌, ◌++◌, length, take, drop, get_or, set}
use Rattle.link_rows.specs.BornRows.{rows_of}
use Rattle.link_rows.proofs.born.BornRows.put.Given as goal

abbrev pub invariant-loop-link : goal.invariant-loop-link
invariant-loop-link g l =
    (rows_of l.self-inside.width l.self-inside.count l.self-inside.numbers.items
    ≡ set l.fn.self.rows l.place (take l.link l.row ++ drop l.link (get_or l.fn.self.rows l.place [])))
    × (length l.self-inside.numbers.items ≡ l.self-inside.count * l.self-inside.width)
    × (l.self-inside.first ≡ l.initial.self-inside.first) × (l.self-inside.width ≡ l.initial.self-inside.width)
    × (l.self-inside.count ≡ l.initial.self-inside.count) × (l.self-inside.back ≡ l.initial.self-inside.back)
