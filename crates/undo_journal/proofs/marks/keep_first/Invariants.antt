use Rattle.std.proofs.Common.{◌≡◌, vec_len, vec_capacity}
use Rattle.std.specs.BTreeMap.{get_by_text}
use Rattle.undo_journal.proofs.MarkFacts.{IsCut}
use Rattle.undo_journal.proofs.marks.keep_first.Given as goal

abbrev pub invariant-loop-entries : goal.invariant-loop-entries
invariant-loop-entries l = IsCut l.spared l.kept l.fn.entries.items (get_by_text l.fn.numbers) l.entries.items (get_by_text l.numbers) × (vec_capacity l.entries ≡ vec_capacity l.fn.entries)

abbrev pub decreases-loop-entries : goal.decreases-loop-entries
decreases-loop-entries l = vec_len l.entries
