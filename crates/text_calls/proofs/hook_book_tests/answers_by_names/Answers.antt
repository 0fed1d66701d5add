use Rattle.std.proofs.Common.{rules, refl, ⊎_elim, slice_index_or}
use Rattle.hook_book.specs.Rules.{spanned-whole}
use Rattle.hook_book.proofs.Boxes.{one-or-other}
use Rattle.text_calls.proofs.hook_book_tests.answers_by_names.Goals as goal

pub new-base-requires : goal.new-base-requires
new-base-requires g c = record {
  merge = λ x y hx hy. search rules;
  merged = λ x y r hx hy ran. search rules;
  share = λ v k p hv hk hp. search rules;
  shared = λ v k p r hv hk hp ran. search rules;
}

pub new-requires-3-clause-whole : goal.new-requires-3-clause-whole
new-requires-3-clause-whole g c = λ k d l v h. ⊎_elim (λ p. rw p.2 refl) (λ p. rw p.2 (spanned-whole v h)) (one-or-other (slice_index_or c.push-2.new.self.items k d))

pub new-requires-3-clause-ready : goal.new-requires-3-clause-ready
new-requires-3-clause-ready g c = λ k d l. ⊎_elim (λ p. rw p.2 tt) (λ p. rw p.2 tt) (one-or-other (slice_index_or c.push-2.new.self.items k d))

pub merged_by-requires-2 : goal.merged_by-requires-2
merged_by-requires-2 g c = c.in-Ok.ensures.callable c.new-base.ensures

pub merged_by-requires-3 : goal.merged_by-requires-3
merged_by-requires-3 g c = c.in-Ok.ensures.callable c.new-base.ensures

pub share_by-requires-clause-ready : goal.share_by-requires-clause-ready
share_by-requires-clause-ready g c = c.in-Ok.ensures.callable c.new-base.ensures

pub share_by-requires-2-clause-ready : goal.share_by-requires-2-clause-ready
share_by-requires-2-clause-ready g c = c.in-Ok.ensures.callable c.new-base.ensures

pub share_by-requires-3-clause-ready : goal.share_by-requires-3-clause-ready
share_by-requires-3-clause-ready g c = c.in-Ok.ensures.callable c.new-base.ensures
