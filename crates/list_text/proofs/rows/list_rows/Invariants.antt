use Rattle.std.proofs.Common.{◌≡◌, ◌+◌, take}
use Rattle.machine_defs.specs.Listing.{live_rows_from}
use Rattle.list_text.proofs.rows.list_rows.Given as goal

abbrev pub invariant-loop-number : goal.invariant-loop-number
invariant-loop-number g l = l.rows.items ≡ live_rows_from 0 (take (l.number + 1) l.links.rows)
