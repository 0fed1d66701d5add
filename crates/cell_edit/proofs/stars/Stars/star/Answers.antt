use Rattle.std.proofs.Common.{◌≡◌, ◌+◌, ◌<◌, ◌∙◌, List, ℕ, length, slice_index, Contains, sym, ap, subst}
use Rattle.cell_edit.specs.Stars.{Stars, star_of}
use Rattle.cell_edit.proofs.StarNumbers.{star-found}
use Rattle.cell_edit.proofs.stars.Stars.star.Goals as goal

pub unreachable-requires : goal.unreachable-requires
unreachable-requires c =
    let keys : List ℕ = c.self.inside.darts.items in
    let none : Contains keys c.args.dart → ⊥ = rw c.deref.ensures.value at c.in-None.ensures.none in
    none (subst (λ (s : Stars). Contains s.keys c.args.dart) (sym c.self.view_is) c.requires)

pub returns-clause-star : goal.returns-clause-star
returns-clause-star c =
    let keys : List ℕ = c.self.inside.darts.items in
    let stars : Stars = record { keys = keys; made = c.self.inside.made } in
    let low : c.in-Some.place < length keys = rw c.deref.ensures.value at c.in-Some.ensures.within in
    let at : slice_index keys c.in-Some.place ≡ c.args.dart = rw c.deref.ensures.value at c.in-Some.ensures.place in
    let number : c.unwrap.result ≡ c.self.inside.made + 1 + c.in-Some.place = rw c.unwrap.ensures at c.new.ensures.same in
    number ∙ sym (star-found stars c.args.dart c.in-Some.place c.self.invariant.0 low at) ∙ ap (λ (s : Stars). star_of s c.args.dart) c.self.view_is
