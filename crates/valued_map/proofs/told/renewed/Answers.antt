use Rattle.std.proofs.Common.{ℕ, ◌≡◌, ◌+◌, ◌<◌, ◌⊎◌, ◌↔◌, List, [], ◌∷◌, ◌++◌, Contains, inl, inr, sym, ap, subst, ◌∙◌, arith}
use Rattle.std.proofs.lemmas.Bool.{cases_eq}
use Rattle.std.proofs.lemmas.List.Elements.{Contains-append_left, Contains-push, Contains-push_cases}
use Rattle.map_defs.specs.Edits.{Edit}
use Rattle.valued_map.proofs.told.renewed.Goals as goal

pub loop-number-init : goal.loop-number-init
loop-number-init c =
    let items : c.in_ok-darts.darts.items ≡ c.args.edit.now.deaths = c.in_ok-darts.ensures.items ∙ c.deref.ensures.value ∙ ap (λ (e : Edit). e.deaths) c.edit.view_is in (
      omega arith,
      λ d. (
        (λ h. inl (subst (λ (xs : List ℕ). Contains xs d) items h)),
        λ h. (elim h [
          | inl there ↦ subst (λ (xs : List ℕ). Contains xs d) (sym items) there
          | inr born ↦ absurd (let high : c.args.older < d = born.0 in let low : d < c.args.older + 1 = born.1 in omega arith)
        ]),
      ),
    )

pub loop-number-preserved : goal.loop-number-preserved
loop-number-preserved c =
    let xs : List ℕ = c.loop-number.darts.items in
    let number : ℕ = c.loop-number.number in
    let (above, are) = c.loop-number.invariant in
    let pushed : c.add_numbered.new.darts.items ≡ xs ++ number ∷ [] = c.in_ok-add_numbered.ensures in (
      omega arith,
      λ d. (
        (λ h. (elim (Contains-push_cases xs number d (subst (λ (ys : List ℕ). Contains ys d) pushed h)) [
          | inl before ↦ elim ((are d).0 before) [
            | inl gone ↦ inl gone
            | inr born ↦ inr (born.0, let low : d < number = born.1 in omega arith)
          ]
          | inr same ↦ inr (omega (arith, above, same), omega (arith, same))
        ])),
        λ h. subst (λ (ys : List ℕ). Contains ys d) (sym pushed) (elim h [
          | inl gone ↦ Contains-append_left xs (number ∷ []) d ((are d).1 (inl gone))
          | inr born ↦ elim (cases_eq d number) [
            | inl same ↦ subst (Contains (xs ++ number ∷ [])) (sym same) (Contains-push xs number)
            | inr other ↦ Contains-append_left xs (number ∷ []) d ((are d).1 (inr (born.0, let low : d < number + 1 = born.1 in omega arith)))
          ]
        ]),
      ),
    )

pub returns : goal.returns
returns c =
    let births-is : c.edit.inside.births ≡ c.args.edit.now.births = ap (λ (e : Edit). e.births) c.edit.view_is in
    let whole : c.loop-number.number ≡ c.args.older + c.args.edit.now.births + 1 = omega (arith, c.loop-number-test.false, births-is) in
    subst (λ (m : ℕ). (d : ℕ) → Contains c.loop-number.darts.items d ↔ (Contains c.args.edit.now.deaths d ⊎ ((c.args.older < d) × (d < m)))) whole c.loop-number.invariant.1
