use Rattle.std.proofs.Common.{◌≡◌, ◌≤◌, ◌+◌, ◌-◌, ℕ, List, [], Some, length, drop, refl, ap, sym, ◌∙◌, arith, lit<}
use Rattle.std.proofs.lemmas.List.{drop_all}
use Rattle.std.proofs.lemmas.List.Elements.{All-same}
use Rattle.map_defs.specs.Edits.{Change, unlinked}
use Rattle.link_rows.specs.BornRows.{NewRows, back_changes, led_back}
use Rattle.link_rows.proofs.BornChanges.{rows-count, back-each, led-at}
use Rattle.link_rows.proofs.born.BornRows.free_back_links.Goals as goal

pub loop-place-init : goal.loop-place-init
loop-place-init g c =
    let rows : List (List ℕ) = c.args.self.now.rows in
    let i : ℕ = c.in-Some.link in
    let none : drop c.self.inside.count rows ≡ [] =
    drop_all c.self.inside.count rows (omega (
      arith,
      rows-count c.self.inside.width c.self.inside.count c.self.inside.numbers.items,
      ap (λ (b : NewRows). length b.rows) c.self.view_is,
    )) in (
      sym (ap (λ (rs : List (List ℕ)). unlinked (back_changes i (c.args.self.now.first + c.self.inside.count) rs) c.args.rows.now.rows) none),
      refl,
      refl,
    )

pub named_at-requires-clause-place : goal.named_at-requires-clause-place
named_at-requires-clause-place g c =
    omega (
      arith,
      c.loop-place-test.true,
      c.loop-place.auto.place,
      rows-count c.self.inside.width c.self.inside.count c.self.inside.numbers.items,
      ap (λ (b : NewRows). length b.rows) c.self.view_is,
    )

pub set_entry-requires : goal.set_entry-requires
set_entry-requires g c =
    let rows : List (List ℕ) = c.args.self.now.rows in
    let i : ℕ = c.in-Some.link in
    let first : ℕ = c.args.self.now.first in
    let back : c.args.self.now.back ≡ Some i = sym (ap (λ (b : NewRows). b.back) c.self.view_is) ∙ c.in-Some.is in
    let led : led_back c.args.self.now.back c.args.self.now.first rows ≡ back_changes i c.args.self.now.first rows =
    led-at c.args.self.now.back i c.args.self.now.first rows back in
    let links = All-same (λ (b : Change). b.link ≤ g.row.DIM) (back_changes i first rows) _ (sym led) c.requires in
    (lit< tt, back-each (λ (b : Change). b.link ≤ g.row.DIM) i first rows links (c.loop-place.place - 1) c.in-Some-named_at.ensures.named)
