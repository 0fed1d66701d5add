use Rattle.std.proofs.Common.{◌≡◌, ◌+◌, ◌-◌, length, take}
use Rattle.link_rows.proofs.steps.unbear.Given as goal

abbrev pub invariant-loop-birth : goal.invariant-loop-birth
invariant-loop-birth g l =
    (l.rows.rows ≡ take (length l.fn.rows.rows - l._birth) l.fn.rows.rows)
    × (l.rows.spare ≡ l.fn.rows.spare + l._birth) × (l.rows.room ≡ l.fn.rows.room + l._birth)
