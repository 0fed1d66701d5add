use Rattle.std.proofs.Common.{◌≡◌, ℕ, List, [], Some, length, get_or, Contains, ap, sym, subst, ◌∙◌, arith}
use Rattle.std.proofs.lemmas.Option.{IfSome_then}
use Rattle.map_defs.specs.Edits.{Change}
use Rattle.link_rows.specs.BornRows.{NewRows, back_changes, led_back}
use Rattle.link_rows.proofs.BornChanges.{rows-count, back-told, back-tell, led-at}
use Rattle.link_rows.proofs.born.BornRows.back_change_of.Goals as goal

pub returns-then-back-link-clause-none : goal.returns-then-back-link-clause-none
returns-then-back-link-clause-none c = λ _ change held dart link.
    let rows : List (List ℕ) = c.args.self.now.rows in
    let i : ℕ = c.in-Some.back in
    let first : ℕ = c.args.self.now.first in
    let back : c.args.self.now.back ≡ Some i = sym (ap (λ (b : NewRows). b.back) c.self.view_is) ∙ c.in-Some.is in
    let led : led_back c.args.self.now.back first rows ≡ back_changes i first rows = led-at c.args.self.now.back i first rows back in
    let told = back-told i first rows change (subst (λ (cs : List Change). Contains cs change) led held) in
    c.if-back-link.true (sym told.link ∙ link)

pub number_at-requires-clause-place : goal.number_at-requires-clause-place
number_at-requires-clause-place c =
    omega (
      arith,
      c.loop-place-test.true,
      rows-count c.self.inside.width c.self.inside.count c.self.inside.numbers.items,
      ap (λ (b : NewRows). length b.rows) c.self.view_is,
    )

pub returns-then-number_at-number-clause-some : goal.returns-then-number_at-number-clause-some
returns-then-number_at-number-clause-some c =
    let rows : List (List ℕ) = c.args.self.now.rows in
    let i : ℕ = c.args.link in
    let first : ℕ = c.args.self.now.first in
    let place : ℕ = c.loop-place.place in
    let back : c.args.self.now.back ≡ Some i =
    sym (ap (λ (b : NewRows). b.back) c.self.view_is) ∙ c.in-Some.is ∙ ap (λ (m : ℕ). Some m) c.if-back-link.false in
    let led : led_back c.args.self.now.back first rows ≡ back_changes i first rows = led-at c.args.self.now.back i first rows back in
    let named : get_or (get_or rows place []) i 0 ≡ c.args.dart =
    sym c.number_at.ensures ∙ c.if-number_at-number.true ∙ c.number.ensures.same in
    IfSome_then c.back_change.result c.back_change.ensures.some
    (λ change is.
    let dart : change.dart ≡ get_or (get_or rows place []) i 0 = ap (λ (b : Change). b.dart) is in
    let link : change.link ≡ i = ap (λ (b : Change). b.link) is in (
      subst (λ (cs : List Change). Contains cs change) (sym led)
          (back-tell i first rows place change dart link (ap (λ (b : Change). b.old) is) (ap (λ (b : Change). b.new) is)
          (λ none. omega (arith, c.number.ensures.same, c.number.ensures.some))),
      dart ∙ named,
      link,
    ))

pub returns-clause-none : goal.returns-clause-none
returns-clause-none c = λ _ change held dart link.
    let rows : List (List ℕ) = c.args.self.now.rows in
    let i : ℕ = c.args.link in
    let first : ℕ = c.args.self.now.first in
    let back : c.args.self.now.back ≡ Some i =
    sym (ap (λ (b : NewRows). b.back) c.self.view_is) ∙ c.in-Some.is ∙ ap (λ (m : ℕ). Some m) c.if-back-link.false in
    let led : led_back c.args.self.now.back first rows ≡ back_changes i first rows = led-at c.args.self.now.back i first rows back in
    let told = back-told i first rows change (subst (λ (cs : List Change). Contains cs change) led held) in
    let count : c.self.inside.count ≡ length rows =
    sym (rows-count c.self.inside.width c.self.inside.count c.self.inside.numbers.items) ∙ ap (λ (b : NewRows). length b.rows) c.self.view_is in
    c.loop-place.invariant told.place (omega (arith, told.within, c.loop-place-test.false)) (sym told.dart ∙ dart)
