use Rattle.std.proofs.Common.{map}
use Rattle.hook_book.specs.Books.{AreFine}
use Rattle.hook_book.proofs.book.first_fault.Given as goal

abbrev pub invariant-loop-place : goal.invariant-loop-place
invariant-loop-place g l = AreFine (map g.R.Kept.called l.hooks) l.place
