use Rattle.std.proofs.Common.{refl, ⊎_elim, slice_index_or}
use Rattle.hook_book.specs.Rules.{spanned-whole}
use Rattle.hook_book.proofs.Boxes.{one-or-other}
use Rattle.map_rows.proofs.harness.run_over.Goals as goal

pub new-requires-3-clause-whole : goal.new-requires-3-clause-whole
new-requires-3-clause-whole c = λ k d l v h. ⊎_elim (λ p. rw p.2 refl) (λ p. rw p.2 (spanned-whole v h)) (one-or-other (slice_index_or c.push-2.new.self.items k d))

pub new-requires-3-clause-ready : goal.new-requires-3-clause-ready
new-requires-3-clause-ready c = λ k d l. ⊎_elim (λ p. rw p.2 tt) (λ p. rw p.2 tt) (one-or-other (slice_index_or c.push-2.new.self.items k d))
