use Rattle.std.proofs.Common.{◌≡◌, ◌-◌}
use Rattle.machine_defs.specs.ListingLines.{entries}
use Rattle.list_text.specs.Views.{words_left}
use Rattle.list_text.proofs.Entries.{behind}
use Rattle.list_text.proofs.form.read_entries.Given as goal

abbrev pub invariant-loop : goal.invariant-loop
invariant-loop l = behind l.links.items (entries l.made (l.count - l.counter) (words_left l.left)) ≡ entries l.made l.count (words_left l.fn.words)
