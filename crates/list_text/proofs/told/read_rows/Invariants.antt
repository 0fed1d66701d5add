use Rattle.std.proofs.Common.{◌≡◌, ◌-◌, []}
use Rattle.machine_defs.specs.ListingForm.{rows_read}
use Rattle.list_text.specs.Views.{cursor_view}
use Rattle.list_text.proofs.told.read_rows.Given as goal

abbrev pub invariant-loop : goal.invariant-loop
invariant-loop l = rows_read l.header.dim l.header.made (l.header.live - l.counter) l.rows.items (cursor_view l.left) ≡ rows_read l.header.dim l.header.made l.header.live [] (cursor_view l.cursor)
