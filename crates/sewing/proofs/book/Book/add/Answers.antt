use Rattle.std.proofs.Common.{◌≡◌, ◌↔◌, ℕ, Some, refl, sym, ap, ◌∙◌, inl, subst}
use Rattle.std.proofs.lemmas.Bool.{eqb-true, eqb-false}
use Rattle.sewing.specs.Triples.{Triple, Lists}
use Rattle.sewing.proofs.book.Book.add.Goals as goal

pub returns-then-eq-clause-added : goal.returns-then-eq-clause-added
returns-then-eq-clause-added g c =
    let found : (y : ℕ) → (c.partner.result ≡ Some y) ↔ Lists c.args.self.now c.args.triple.x y c.args.triple.t =
    rw (ap (λ (q : Triple). q.x) c.triple.view_is, ap (λ (q : Triple). q.t) c.triple.view_is) at c.partner.ensures in
    let same : c.in-Some.partner ≡ c.args.triple.y = rw (ap (λ (q : Triple). q.y) c.triple.view_is) at (eqb-true _ _ (sym c.eq.ensures ∙ c.if-eq.true)) in
    inl (subst (λ (y : ℕ). Lists c.args.self.now c.args.triple.x y c.args.triple.t) same ((found c.in-Some.partner).0 c.in-Some.is), refl)

pub returns-in-Some-clause-unpaired : goal.returns-in-Some-clause-unpaired
returns-in-Some-clause-unpaired g c = λ _.
    let found : (y : ℕ) → (c.partner.result ≡ Some y) ↔ Lists c.args.self.now c.args.triple.x y c.args.triple.t =
    rw (ap (λ (q : Triple). q.x) c.triple.view_is, ap (λ (q : Triple). q.t) c.triple.view_is) at c.partner.ensures in
    inl (c.in-Some.partner, (found c.in-Some.partner).0 c.in-Some.is, rw (ap (λ (q : Triple). q.y) c.triple.view_is) at (eqb-false _ _ (sym c.eq.ensures ∙ c.if-eq.false)))

pub put_both-requires : goal.put_both-requires
put_both-requires g c = λ y has.
    let found : (y : ℕ) → (c.partner.result ≡ Some y) ↔ Lists c.args.self.now c.args.triple.x y c.args.triple.t =
    rw (ap (λ (q : Triple). q.x) c.triple.view_is, ap (λ (q : Triple). q.t) c.triple.view_is) at c.partner.ensures in
    c.in_default.not-Some y ((found y).1 has)
