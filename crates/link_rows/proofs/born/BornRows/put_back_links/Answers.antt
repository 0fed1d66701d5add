use Rattle.std.proofs.Common.{◌≡◌, ◌≤◌, ◌+◌, ℕ, List, [], Some, length, get_or, drop, ap, sym, ◌∙◌, arith, lit<}
use Rattle.std.proofs.lemmas.List.{drop_all}
use Rattle.std.proofs.lemmas.List.Elements.{All-same}
use Rattle.map_defs.specs.Edits.{Change, linked}
use Rattle.dart_arena.specs.Stock.{IsLive}
use Rattle.link_rows.specs.BornRows.{NewRows, back_changes, led_back}
use Rattle.link_rows.proofs.BornChanges.{rows-count, back-each, led-at}
use Rattle.link_rows.proofs.born.BornRows.put_back_links.Goals as goal

pub named_at-requires-clause-place : goal.named_at-requires-clause-place
named_at-requires-clause-place g c =
    omega (
      arith,
      c.loop-place-test.true,
      rows-count c.self.inside.width c.self.inside.count c.self.inside.numbers.items,
      ap (λ (b : NewRows). length b.rows) c.self.view_is,
    )

pub set_live_entry-requires : goal.set_live_entry-requires
set_live_entry-requires g c =
    let rows : List (List ℕ) = c.args.self.now.rows in
    let i : ℕ = c.in-Some.link in
    let first : ℕ = c.args.self.now.first in
    let place : ℕ = c.loop-place.place in
    let back : c.args.self.now.back ≡ Some i = sym (ap (λ (b : NewRows). b.back) c.self.view_is) ∙ c.in-Some.is in
    let led : led_back c.args.self.now.back c.args.self.now.first rows ≡ back_changes i c.args.self.now.first rows =
    led-at c.args.self.now.back i c.args.self.now.first rows back in
    let named = c.in-Some-named_at.ensures.named in
    let links = All-same (λ (b : Change). b.link ≤ g.row.DIM) (back_changes i first rows) _ (sym led) c.requires.links in
    let live = All-same (λ (b : Change). IsLive c.args.rows.now b.dart) (back_changes i first rows) _ (sym led) c.requires.live in
    rw c.in-Some-named_at.ensures.some (
      lit< tt,
      (
        c.loop-place.invariant.3 (get_or (get_or rows place []) i 0)
            (back-each (λ (b : Change). IsLive c.args.rows.now b.dart) i first rows live place named),
        back-each (λ (b : Change). b.link ≤ g.row.DIM) i first rows links place named,
      ),
    )

pub returns-clause-rows : goal.returns-clause-rows
returns-clause-rows g c =
    let rows : List (List ℕ) = c.args.self.now.rows in
    let i : ℕ = c.in-Some.link in
    let none : drop c.loop-place.place rows ≡ [] =
    drop_all c.loop-place.place rows (omega (
      arith,
      c.loop-place-test.false,
      rows-count c.self.inside.width c.self.inside.count c.self.inside.numbers.items,
      ap (λ (b : NewRows). length b.rows) c.self.view_is,
    )) in
    let back : c.args.self.now.back ≡ Some i = sym (ap (λ (b : NewRows). b.back) c.self.view_is) ∙ c.in-Some.is in
    let led : led_back c.args.self.now.back c.args.self.now.first rows ≡ back_changes i c.args.self.now.first rows =
    led-at c.args.self.now.back i c.args.self.now.first rows back in
    sym (ap (λ (rs : List (List ℕ)). linked (back_changes i (c.args.self.now.first + c.loop-place.place) rs) c.loop-place.rows.rows) none)
    ∙ c.loop-place.invariant.0 ∙ ap (λ (cs : List Change). linked cs c.args.rows.now.rows) (sym led)
