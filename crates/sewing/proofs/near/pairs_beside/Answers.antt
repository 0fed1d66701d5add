use Rattle.std.proofs.Common.{◌≡◌, ◌↔◌, ◌⊎◌, ℕ, ◌++◌, ◌∷◌, [], List, Option, Some, None, inl, inr, refl, sym, ap, ◌∙◌, subst, true, false}
use Rattle.std.specs.Prelude.{is_some}
use Rattle.std.proofs.lemmas.Bool.{false≢true, eqb-true, eqb-false}
use Rattle.std.proofs.lemmas.List.Elements.{Contains-push_cases}
use Rattle.map_defs.specs.Kind.{inverse}
use Rattle.sewing.specs.Triples.{Triple, Lists}
use Rattle.sewing.specs.PairSteps.{AreApart, turn}
use Rattle.sewing.proofs.BookPlaces.{apart-push, apart-two}
use Rattle.sewing.proofs.near.pairs_beside.Goals as goal

some_of : (o : Option ℕ) → is_some o ≡ true → (x : ℕ) × (o ≡ Some x)
some_of None is = absurd (false≢true is)
some_of (Some x) is = (x, refl)

none_of : (o : Option ℕ) (x : ℕ) → is_some o ≡ false → o ≡ Some x → ⊥
none_of o x not some = false≢true (sym not ∙ ap is_some some)

pub returns-then-eq-clause-added : goal.returns-then-eq-clause-added
returns-then-eq-clause-added g c =
    let found : (y : ℕ) → (c.partner.result ≡ Some y) ↔ Lists (c.args.seed ∷ turn g.K.Kind.kind c.args.seed ∷ []) c.args.other.x y c.args.other.t =
    rw (ap (λ (q : Triple). q.x) c.other.view_is, ap (λ (q : Triple). q.t) c.other.view_is) at c.partner.ensures in
    let same : c.in-Some.partner ≡ c.args.other.y = rw (ap (λ (q : Triple). q.y) c.other.view_is) at (eqb-true _ _ (sym c.eq.ensures ∙ c.if-eq.true)) in
    let there = subst (λ (y : ℕ). Lists (c.args.seed ∷ turn g.K.Kind.kind c.args.seed ∷ []) c.args.other.x y c.args.other.t) same ((found c.in-Some.partner).0 c.in-Some.is) in
    inl (there, ap (λ (q : Triple). c.args.seed ∷ q ∷ []) c.turned.ensures)

pub returns-in-Some-clause-unpaired : goal.returns-in-Some-clause-unpaired
returns-in-Some-clause-unpaired g c = λ _.
    let found : (y : ℕ) → (c.partner.result ≡ Some y) ↔ Lists (c.args.seed ∷ turn g.K.Kind.kind c.args.seed ∷ []) c.args.other.x y c.args.other.t =
    rw (ap (λ (q : Triple). q.x) c.other.view_is, ap (λ (q : Triple). q.t) c.other.view_is) at c.partner.ensures in
    inl (c.in-Some.partner, (found c.in-Some.partner).0 c.in-Some.is, rw (ap (λ (q : Triple). q.y) c.other.view_is) at (eqb-false _ _ (sym c.eq.ensures ∙ c.if-eq.false)))

pub returns-then-is_some-clause-unpaired : goal.returns-then-is_some-clause-unpaired
returns-then-is_some-clause-unpaired g c = λ _.
    let known : (y : ℕ) → (c.partner.result ≡ Some y) ↔ Lists (c.args.seed ∷ turn g.K.Kind.kind c.args.seed ∷ []) c.args.other.x y c.args.other.t =
    rw (ap (λ (q : Triple). q.x) c.other.view_is, ap (λ (q : Triple). q.t) c.other.view_is) at c.partner.ensures in
    let found : (y : ℕ) → (c.partner-2.result ≡ Some y) ↔ Lists (c.args.seed ∷ turn g.K.Kind.kind c.args.seed ∷ []) c.args.other.y y (inverse g.K.Kind.kind c.args.other.t) =
    rw (ap (λ (q : Triple). q.x) (c.turned-2.view_is ∙ c.turned-turned.ensures), ap (λ (q : Triple). q.t) (c.turned-2.view_is ∙ c.turned-turned.ensures)) at c.partner-2.ensures in
    let some = some_of c.partner-2.result (sym c.is_some.ensures ∙ c.if-is_some.true) in
    inr (inr (some.0, (found some.0).0 some.1, λ has. c.in_default.not-Some c.args.other.y ((known c.args.other.y).1 has)))

pub returns-clause-apart : goal.returns-clause-apart
returns-clause-apart g c =
    let old : List Triple = c.args.seed ∷ turn g.K.Kind.kind c.args.seed ∷ [] in
    let more : AreApart (old ++ c.args.other ∷ []) = apart-push old c.args.other (λ y has. c.in_default.not-Some y ((known y).1 has)) (apart-two g.K.Kind.kind c.args.seed c.requires) in
    subst (λ (q : Triple). AreApart (c.args.seed ∷ q ∷ c.args.other ∷ c.turned-turned.result ∷ [])) (sym c.turned-3.ensures)
    (subst (λ (q : Triple). AreApart (c.args.seed ∷ turn g.K.Kind.kind c.args.seed ∷ c.args.other ∷ q ∷ [])) (sym c.turned-turned.ensures)
    (apart-push (old ++ c.args.other ∷ []) (turn g.K.Kind.kind c.args.other) fresh more))
  where
    known : (y : ℕ) → (c.partner.result ≡ Some y) ↔ Lists (c.args.seed ∷ turn g.K.Kind.kind c.args.seed ∷ []) c.args.other.x y c.args.other.t
    known = rw (ap (λ (q : Triple). q.x) c.other.view_is, ap (λ (q : Triple). q.t) c.other.view_is) at c.partner.ensures

    found : (y : ℕ) → (c.partner-2.result ≡ Some y) ↔ Lists (c.args.seed ∷ turn g.K.Kind.kind c.args.seed ∷ []) c.args.other.y y (inverse g.K.Kind.kind c.args.other.t)
    found = rw (ap (λ (q : Triple). q.x) (c.turned-2.view_is ∙ c.turned-turned.ensures), ap (λ (q : Triple). q.t) (c.turned-2.view_is ∙ c.turned-turned.ensures)) at c.partner-2.ensures

    apart : (y : ℕ) → Lists (c.args.seed ∷ turn g.K.Kind.kind c.args.seed ∷ []) c.args.other.y y (inverse g.K.Kind.kind c.args.other.t)
        ⊎ ◌≡◌ {A = Triple} c.args.other (record { x = c.args.other.y; y = y; t = inverse g.K.Kind.kind c.args.other.t }) → ⊥
    apart y (inl has) = none_of c.partner-2.result y (sym c.is_some.ensures ∙ c.if-is_some.false) ((found y).1 has)
    apart y (inr is) = false≢true (sym c.if-is_loop.false ∙ c.is_loop.ensures.1 (ap (λ (q : Triple). q.x) is, sym (ap (λ (q : Triple). q.t) is)))

    fresh : (y : ℕ) → Lists (c.args.seed ∷ turn g.K.Kind.kind c.args.seed ∷ c.args.other ∷ []) c.args.other.y y (inverse g.K.Kind.kind c.args.other.t) → ⊥
    fresh y has = apart y (Contains-push_cases (c.args.seed ∷ turn g.K.Kind.kind c.args.seed ∷ []) c.args.other (record { x = c.args.other.y; y = y; t = inverse g.K.Kind.kind c.args.other.t }) has)
