use Rattle.std.proofs.Common.{refl, ⊎_elim, slice_index_or}
use Rattle.hook_book.proofs.Boxes.{one-or-other}
use Rattle.text_calls.proofs.hook_book_tests.refuses_names.Goals as goal

pub new-requires-3-clause-whole : goal.new-requires-3-clause-whole
new-requires-3-clause-whole g c = λ k d l v h. ⊎_elim (λ p. rw p.2 refl) (λ p. rw p.2 refl) (one-or-other (slice_index_or c.push-2.new.self.items k d))

pub new-requires-3-clause-ready : goal.new-requires-3-clause-ready
new-requires-3-clause-ready g c = λ k d l. ⊎_elim (λ p. rw p.2 tt) (λ p. rw p.2 tt) (one-or-other (slice_index_or c.push-2.new.self.items k d))

pub new-requires-5-clause-whole : goal.new-requires-5-clause-whole
new-requires-5-clause-whole g c = λ k d l v h. ⊎_elim (λ p. rw p.2 refl) (λ p. rw p.2 refl) (one-or-other (slice_index_or c.push-3.new.self.items k d))

pub new-requires-5-clause-ready : goal.new-requires-5-clause-ready
new-requires-5-clause-ready g c = λ k d l. ⊎_elim (λ p. rw p.2 tt) (λ p. rw p.2 tt) (one-or-other (slice_index_or c.push-3.new.self.items k d))
