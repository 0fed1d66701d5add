use Rattle.std.proofs.Common.{◌≡◌, [], length, codes}
use Rattle.machine_defs.specs.Script.{lines_of}
use Rattle.machine_defs.specs.ListingForm.{all_read, mark_taken}
use Rattle.list_text.proofs.told.read_marks.Given as goal

abbrev pub invariant-loop-marks : goal.invariant-loop-marks
invariant-loop-marks l = all_read (codes "mark ") mark_taken l.marks l.left.line (lines_of l.left.rest.now) ≡ all_read (codes "mark ") mark_taken [] l.fn.cursor.line (lines_of l.fn.cursor.rest.now)

abbrev pub decreases-loop-marks : goal.decreases-loop-marks
decreases-loop-marks l = length l.left.rest.now
