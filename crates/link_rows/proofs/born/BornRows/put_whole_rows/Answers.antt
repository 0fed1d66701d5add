use Rattle.std.proofs.Common.{◌≡◌, ◌≢◌, ◌<◌, ◌+◌, ◌++◌, ℕ, List, [], None, length, get_or, drop, ap, sym, ◌∙◌, arith, lit<}
use Rattle.std.proofs.lemmas.List.{drop_all}
use Rattle.map_defs.specs.Rows.{Rows}
use Rattle.map_defs.specs.Edits.{Change, linked}
use Rattle.dart_arena.specs.RowChanges.{row_changes}
use Rattle.edit_laws.proofs.EditSteps.{linked-append}
use Rattle.link_rows.specs.BornRows.{NewRows, rows_changes}
use Rattle.link_rows.proofs.BornChanges.{rows-count, rows-split}
use Rattle.link_rows.proofs.LinkOrder.{row-stays}
use Rattle.link_rows.proofs.born.BornRows.put_whole_rows.Goals as goal

pub dart_at-requires : goal.dart_at-requires
dart_at-requires g c =
    omega (
      arith,
      c.loop-place-test.true,
      rows-count c.self.inside.width c.self.inside.count c.self.inside.numbers.items,
      ap (λ (b : NewRows). length b.rows) c.self.view_is,
    )

pub row_at-requires : goal.row_at-requires
row_at-requires g c =
    omega (
      arith,
      c.loop-place-test.true,
      rows-count c.self.inside.width c.self.inside.count c.self.inside.numbers.items,
      ap (λ (b : NewRows). length b.rows) c.self.view_is,
    )

pub put_row-requires : goal.put_row-requires
put_row-requires g c =
    let within : c.loop-place.place < length c.args.self.now.rows =
    omega (
      arith,
      c.loop-place-test.true,
      rows-count c.self.inside.width c.self.inside.count c.self.inside.numbers.items,
      ap (λ (b : NewRows). length b.rows) c.self.view_is,
    ) in
    (lit< tt, (rw c.dart_at.ensures (c.loop-place.invariant.3 c.loop-place.place (omega arith) within), c.row_at.ensures.wide ∙ c.requires.width))

pub loop-place-preserved : goal.loop-place-preserved
loop-place-preserved g c =
    let rows : List (List ℕ) = c.args.self.now.rows in
    let place : ℕ = c.loop-place.place in
    let within : place < length rows =
    omega (
      arith,
      c.loop-place-test.true,
      rows-count c.self.inside.width c.self.inside.count c.self.inside.numbers.items,
      ap (λ (b : NewRows). length b.rows) c.self.view_is,
    ) in
    let row : List Change = row_changes c.dart_at.result 0 c.row_at.result.now in
    let behind : List Change = rows_changes (c.args.self.now.first + (place + 1)) (drop (place + 1) rows) in
    let split : rows_changes (c.args.self.now.first + place) (drop place rows) ≡ row ++ behind =
    rows-split c.args.self.now.first place c.dart_at.result rows c.row_at.result.now within c.dart_at.ensures c.row_at.ensures.row in
    let kept = c.loop-place.invariant in (
      ap (linked behind) c.put_row.ensures.rows ∙ sym (linked-append row behind c.loop-place.rows.rows)
          ∙ ap (λ (cs : List Change). linked cs c.loop-place.rows.rows) (sym split) ∙ kept.0,
      c.put_row.ensures.spare ∙ kept.1,
      c.put_row.ensures.room ∙ kept.2,
      λ p from to.
          let other : c.args.self.now.first + p ≢ c.dart_at.result = λ same. omega (arith, same, c.dart_at.ensures) in
          ap (λ (r : Rows). get_or r (c.args.self.now.first + p) None) c.put_row.ensures.rows
          ∙ row-stays c.dart_at.result 0 c.row_at.result.now c.loop-place.rows.rows (c.args.self.now.first + p) other
          ∙ kept.3 p (omega arith) to,
    )

pub returns-clause-rows : goal.returns-clause-rows
returns-clause-rows g c =
    let rows : List (List ℕ) = c.args.self.now.rows in
    let none : drop c.loop-place.place rows ≡ [] =
    drop_all c.loop-place.place rows (omega (
      arith,
      c.loop-place-test.false,
      rows-count c.self.inside.width c.self.inside.count c.self.inside.numbers.items,
      ap (λ (b : NewRows). length b.rows) c.self.view_is,
    )) in
    sym (ap (λ (rs : List (List ℕ)). linked (rows_changes (c.args.self.now.first + c.loop-place.place) rs) c.loop-place.rows.rows) none)
    ∙ c.loop-place.invariant.0
