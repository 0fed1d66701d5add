use Rattle.std.proofs.Common.{◌≡◌, ◌<◌, ◌+◌, ◌++◌, ℕ, List, [], length, drop, ap, sym, ◌∙◌, arith, lit<}
use Rattle.std.proofs.lemmas.List.{drop_all}
use Rattle.map_defs.specs.Edits.{Change, linked}
use Rattle.dart_arena.specs.RowChanges.{row_changes}
use Rattle.edit_laws.proofs.EditSteps.{linked-append}
use Rattle.link_rows.specs.BornRows.{NewRows, rows_changes}
use Rattle.link_rows.proofs.BornChanges.{rows-count, rows-split, rows-narrow}
use Rattle.link_rows.proofs.born.BornRows.put_row_links.Goals as goal

pub dart_at-requires : goal.dart_at-requires
dart_at-requires g c =
    omega (
      arith,
      c.loop-place-test.true,
      rows-count c.self.inside.width c.self.inside.count c.self.inside.numbers.items,
      ap (λ (b : NewRows). length b.rows) c.self.view_is,
    )

pub row_at-requires : goal.row_at-requires
row_at-requires g c =
    omega (
      arith,
      c.loop-place-test.true,
      rows-count c.self.inside.width c.self.inside.count c.self.inside.numbers.items,
      ap (λ (b : NewRows). length b.rows) c.self.view_is,
    )

pub put_links-requires : goal.put_links-requires
put_links-requires g c =
    rw c.row_at.ensures.row (lit< tt, rows-narrow g.row.DIM c.args.self.now.first c.args.self.now.rows c.requires c.loop-place.place)

pub loop-place-preserved : goal.loop-place-preserved
loop-place-preserved g c =
    let rows : List (List ℕ) = c.args.self.now.rows in
    let place : ℕ = c.loop-place.place in
    let within : place < length rows =
    omega (
      arith,
      c.loop-place-test.true,
      rows-count c.self.inside.width c.self.inside.count c.self.inside.numbers.items,
      ap (λ (b : NewRows). length b.rows) c.self.view_is,
    ) in
    let row : List Change = row_changes c.dart_at.result 0 c.row_at.result.now in
    let behind : List Change = rows_changes (c.args.self.now.first + (place + 1)) (drop (place + 1) rows) in
    let split : rows_changes (c.args.self.now.first + place) (drop place rows) ≡ row ++ behind =
    rows-split c.args.self.now.first place c.dart_at.result rows c.row_at.result.now within c.dart_at.ensures c.row_at.ensures.row in
    let kept = c.loop-place.invariant in (
      ap (linked behind) c.put_links.ensures.rows ∙ sym (linked-append row behind c.loop-place.rows.rows)
          ∙ ap (λ (cs : List Change). linked cs c.loop-place.rows.rows) (sym split) ∙ kept.0,
      c.put_links.ensures.spare ∙ kept.1,
      c.put_links.ensures.room ∙ kept.2,
    )

pub returns-clause-rows : goal.returns-clause-rows
returns-clause-rows g c =
    let rows : List (List ℕ) = c.args.self.now.rows in
    let none : drop c.loop-place.place rows ≡ [] =
    drop_all c.loop-place.place rows (omega (
      arith,
      c.loop-place-test.false,
      rows-count c.self.inside.width c.self.inside.count c.self.inside.numbers.items,
      ap (λ (b : NewRows). length b.rows) c.self.view_is,
    )) in
    sym (ap (λ (rs : List (List ℕ)). linked (rows_changes (c.args.self.now.first + c.loop-place.place) rs) c.loop-place.rows.rows) none)
    ∙ c.loop-place.invariant.0
