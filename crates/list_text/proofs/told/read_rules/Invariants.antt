use Rattle.std.proofs.Common.{◌≡◌, [], length, codes}
use Rattle.machine_defs.specs.Script.{lines_of}
use Rattle.machine_defs.specs.ListingForm.{all_read, rule_taken}
use Rattle.list_text.proofs.told.read_rules.Given as goal

abbrev pub invariant-loop-rules : goal.invariant-loop-rules
invariant-loop-rules l = all_read (codes "rule ") rule_taken l.rules.items l.left.line (lines_of l.left.rest.now) ≡ all_read (codes "rule ") rule_taken [] l.fn.cursor.line (lines_of l.fn.cursor.rest.now)

abbrev pub decreases-loop-rules : goal.decreases-loop-rules
decreases-loop-rules l = length l.left.rest.now
