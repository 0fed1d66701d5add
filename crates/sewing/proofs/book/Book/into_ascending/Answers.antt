use Rattle.std.proofs.Common.{rules, arith}
use Rattle.std.proofs.lemmas.List.Sorted.{answers_always}
use Rattle.sewing.specs.Triples.{Triple}
use Rattle.sewing.proofs.BookPlaces.{sorted-ascending}
use Rattle.sewing.proofs.book.Book.into_ascending.Goals as goal

pub returns-clause-ascending : goal.returns-clause-ascending
returns-clause-ascending c =
    let sorted = c.sort_unstable_by_key.ensures.sorted (λ (p : Triple). (p.x, p.t)) (answers_always _ _ _ (λ f a r g k. search rules)) in
    sorted-ascending c.self.inside.triples.items c.sort_unstable_by_key.new.self.items c.self.invariant.apart c.sort_unstable_by_key.ensures.permutation
    (λ k d within. sorted k d (omega arith) within)
