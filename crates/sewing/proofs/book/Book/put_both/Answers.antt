use Rattle.std.proofs.Common.{◌≡◌, ◌↔◌, ◌⊎◌, ℕ, ◌++◌, ◌∷◌, [], Option, Some, None, inl, inr, refl, sym, ap, ◌∙◌, true, false}
use Rattle.std.specs.Prelude.{is_some}
use Rattle.std.proofs.lemmas.Bool.{false≢true}
use Rattle.std.proofs.lemmas.List.Elements.{Contains-push_cases}
use Rattle.map_defs.specs.Kind.{inverse}
use Rattle.sewing.specs.Triples.{Triple, Lists}
use Rattle.sewing.proofs.book.Book.put_both.Goals as goal

some_of : (o : Option ℕ) → is_some o ≡ true → (x : ℕ) × (o ≡ Some x)
some_of None is = absurd (false≢true is)
some_of (Some x) is = (x, refl)

none_of : (o : Option ℕ) (x : ℕ) → is_some o ≡ false → o ≡ Some x → ⊥
none_of o x not some = false≢true (sym not ∙ ap is_some some)

pub returns-then-is_some-clause-unpaired : goal.returns-then-is_some-clause-unpaired
returns-then-is_some-clause-unpaired g c = λ _.
    let found : (y : ℕ) → (c.partner.result ≡ Some y) ↔ Lists c.args.self.now c.args.triple.y y (inverse g.K.Kind.kind c.args.triple.t) =
    rw (ap (λ (q : Triple). q.x) (c.turned.view_is ∙ c.turned-turned.ensures), ap (λ (q : Triple). q.t) (c.turned.view_is ∙ c.turned-turned.ensures)) at c.partner.ensures in
    let some = some_of c.partner.result (sym c.is_some.ensures ∙ c.if-is_some.true) in
    inr (inr (some.0, (found some.0).0 some.1, c.requires c.args.triple.y))

pub put_two-requires-clause-other : goal.put_two-requires-clause-other
put_two-requires-clause-other g c = λ y has. fresh y (rw c.turned-turned.ensures at has)
  where
    found : (y : ℕ) → (c.partner.result ≡ Some y) ↔ Lists c.args.self.now c.args.triple.y y (inverse g.K.Kind.kind c.args.triple.t)
    found = rw (ap (λ (q : Triple). q.x) (c.turned.view_is ∙ c.turned-turned.ensures), ap (λ (q : Triple). q.t) (c.turned.view_is ∙ c.turned-turned.ensures)) at c.partner.ensures

    apart : (y : ℕ) → Lists c.args.self.now c.args.triple.y y (inverse g.K.Kind.kind c.args.triple.t) ⊎ ◌≡◌ {A = Triple} c.args.triple (record { x = c.args.triple.y; y = y; t = inverse g.K.Kind.kind c.args.triple.t }) → ⊥
    apart y (inl has) = none_of c.partner.result y (sym c.is_some.ensures ∙ c.if-is_some.false) ((found y).1 has)
    apart y (inr is) = false≢true (sym c.if-is_loop.false ∙ c.is_loop.ensures.1 (ap (λ (q : Triple). q.x) is, sym (ap (λ (q : Triple). q.t) is)))

    fresh : (y : ℕ) → Lists (c.args.self.now ++ c.args.triple ∷ []) c.args.triple.y y (inverse g.K.Kind.kind c.args.triple.t) → ⊥
    fresh y has = apart y (Contains-push_cases c.args.self.now c.args.triple (record { x = c.args.triple.y; y = y; t = inverse g.K.Kind.kind c.args.triple.t }) has)
