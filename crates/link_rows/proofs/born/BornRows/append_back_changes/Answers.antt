use Rattle.std.proofs.Common.{◌≡◌, ◌+◌, ◌++◌, ℕ, List, [], Some, length, drop, ap, sym, ◌∙◌, arith, append-nil}
use Rattle.std.proofs.lemmas.List.{drop_all}
use Rattle.map_defs.specs.Edits.{Change}
use Rattle.link_rows.specs.BornRows.{NewRows, back_changes, led_back}
use Rattle.link_rows.proofs.BornChanges.{rows-count, led-at}
use Rattle.link_rows.proofs.born.BornRows.append_back_changes.Goals as goal

pub back_change-requires-clause-place : goal.back_change-requires-clause-place
back_change-requires-clause-place c =
    omega (
      arith,
      c.loop-place-test.true,
      rows-count c.self.inside.width c.self.inside.count c.self.inside.numbers.items,
      ap (λ (b : NewRows). length b.rows) c.self.view_is,
    )

pub returns : goal.returns
returns c =
    let rows : List (List ℕ) = c.args.self.now.rows in
    let i : ℕ = c.in-Some.link in
    let before : List Change = c.loop-place.changes.items in
    let none : drop c.loop-place.place rows ≡ [] =
    drop_all c.loop-place.place rows (omega (
      arith,
      c.loop-place-test.false,
      rows-count c.self.inside.width c.self.inside.count c.self.inside.numbers.items,
      ap (λ (b : NewRows). length b.rows) c.self.view_is,
    )) in
    let back : c.args.self.now.back ≡ Some i = sym (ap (λ (b : NewRows). b.back) c.self.view_is) ∙ c.in-Some.is in
    let led : led_back c.args.self.now.back c.args.self.now.first rows ≡ back_changes i c.args.self.now.first rows =
    led-at c.args.self.now.back i c.args.self.now.first rows back in
    sym (append-nil before)
    ∙ sym (ap (λ (rs : List (List ℕ)). before ++ back_changes i (c.args.self.now.first + c.loop-place.place) rs) none)
    ∙ c.loop-place.invariant ∙ ap (λ (cs : List Change). c.args.changes.now.items ++ cs) (sym led)
