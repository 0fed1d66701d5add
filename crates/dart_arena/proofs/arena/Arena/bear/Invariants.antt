use Rattle.std.proofs.Common.{◌≡◌, ◌-◌}
use Rattle.map_defs.specs.Edits.{with_births}
use Rattle.dart_arena.proofs.arena.Arena.bear.Given as goal

abbrev pub invariant-loop-birth : goal.invariant-loop-birth
invariant-loop-birth g l =
    (l.self.rows ≡ with_births g.row.DIM l._birth l.fn.self.rows) × (l.self.spare ≡ l.fn.self.spare - l._birth) × (l.self.room ≡ l.fn.self.room - l._birth)
