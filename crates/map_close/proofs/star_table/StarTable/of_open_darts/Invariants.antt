use Rattle.std.proofs.Common.{◌+◌, ◌≤◌}
use Rattle.std.specs.Prelude.{vec_capacity}
use Rattle.map_close.specs.Boundary.{IsToldBelow}
use Rattle.map_close.proofs.star_table.StarTable.of_open_darts.Given as goal

abbrev pub invariant-loop-number : goal.invariant-loop-number
invariant-loop-number g l = IsToldBelow l.links.rows l.link l.number l.next l.numbers.items × (l.made + 1 ≤ vec_capacity l.numbers)
