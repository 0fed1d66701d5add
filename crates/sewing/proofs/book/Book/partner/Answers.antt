use Rattle.std.proofs.Common.{◌≡◌, ℕ, ◌↔◌, Some, get_or, sym, ◌∙◌, ap, subst}
use Rattle.std.specs.BTreeMap.{get}
use Rattle.sewing.specs.Triples.{Triple, Lists}
use Rattle.sewing.specs.PairSteps.{IsKept}
use Rattle.sewing.proofs.BookPlaces.{by_place, found-early, found-later}
use Rattle.sewing.proofs.book.Book.partner.Goals as goal

pub returns-in-Some : goal.returns-in-Some
returns-in-Some c = λ y.
    let kept : IsKept (get by_place c.self.inside.more) c.args.self.now = rw c.self.view_is at c.self.invariant in
    let here : get_or c.args.self.now c.in-Some.place c.index.result.now ≡ c.index.result.now = rw c.self.view_is at (sym c.index.ensures) in
    let found = found-early (get by_place c.self.inside.more) c.args.self.now kept c.args.x c.args.t c.in-Some.place c.index.result.now (sym c.place.ensures ∙ c.in-Some.is) here y in
    subst (λ (z : ℕ). (Some z ≡ Some y) ↔ Lists c.args.self.now c.args.x y c.args.t) (sym (ap (λ (q : Triple). q.y) c.behind-self.view_is)) found

pub returns-in-None : goal.returns-in-None
returns-in-None c =
    let kept : IsKept (get by_place c.self.inside.more) c.args.self.now = rw c.self.view_is at c.self.invariant in
    found-later (get by_place c.self.inside.more) c.args.self.now kept c.args.x c.args.t c.copied.result (sym c.place.ensures ∙ c.in-None.is) (c.copied.ensures ∙ c.get.ensures.value)
