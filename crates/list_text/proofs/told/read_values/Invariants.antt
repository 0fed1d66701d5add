use Rattle.std.proofs.Common.{◌≡◌, [], length, codes}
use Rattle.machine_defs.specs.Script.{lines_of}
use Rattle.machine_defs.specs.ListingForm.{all_read, value_taken}
use Rattle.list_text.proofs.told.read_values.Given as goal

abbrev pub invariant-loop-values : goal.invariant-loop-values
invariant-loop-values l = all_read (codes "val ") value_taken l.values.items l.left.line (lines_of l.left.rest.now) ≡ all_read (codes "val ") value_taken [] l.fn.cursor.line (lines_of l.fn.cursor.rest.now)

abbrev pub decreases-loop-values : goal.decreases-loop-values
decreases-loop-values l = length l.left.rest.now
