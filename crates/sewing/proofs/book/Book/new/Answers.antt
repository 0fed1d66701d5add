use Rattle.std.proofs.Common.{refl}
use Rattle.std.specs.BTreeMap.{get}
use Rattle.sewing.proofs.BookPlaces.{by_place, kept-none}
use Rattle.sewing.proofs.book.Book.new.Goals as goal

pub invariant_of-result : goal.invariant_of-result
invariant_of-result c = rw c.in_ok-with_capacity.ensures.items (kept-none (get by_place c.new.result) (λ p. rw c.new.ensures.empty refl))
