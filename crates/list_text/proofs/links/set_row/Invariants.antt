use Rattle.std.proofs.Common.{◌≡◌}
use Rattle.list_text.proofs.RowEntries.{begun}
use Rattle.list_text.proofs.links.set_row.Given as goal

abbrev pub invariant-loop-link : goal.invariant-loop-link
invariant-loop-link g l = l.builder.rows ≡ begun l.link l.dart l.links l.initial.builder.rows
