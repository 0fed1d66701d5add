use Rattle.std.proofs.Common.{◌≡◌, ◌<◌, ◌+◌, ◌++◌, ℕ, List, [], length, drop, ap, sym, ◌∙◌, arith, append_assoc, append-nil}
use Rattle.std.proofs.lemmas.List.{drop_all}
use Rattle.map_defs.specs.Edits.{Change}
use Rattle.dart_arena.specs.RowChanges.{row_changes}
use Rattle.link_rows.specs.BornRows.{NewRows, rows_changes}
use Rattle.link_rows.proofs.BornChanges.{rows-count, rows-split}
use Rattle.link_rows.proofs.born.BornRows.append_row_changes.Goals as goal

pub dart_at-requires : goal.dart_at-requires
dart_at-requires c =
    omega (
      arith,
      c.loop-place-test.true,
      rows-count c.self.inside.width c.self.inside.count c.self.inside.numbers.items,
      ap (λ (b : NewRows). length b.rows) c.self.view_is,
    )

pub row_at-requires : goal.row_at-requires
row_at-requires c =
    omega (
      arith,
      c.loop-place-test.true,
      rows-count c.self.inside.width c.self.inside.count c.self.inside.numbers.items,
      ap (λ (b : NewRows). length b.rows) c.self.view_is,
    )

pub loop-place-preserved : goal.loop-place-preserved
loop-place-preserved c =
    let rows : List (List ℕ) = c.args.self.now.rows in
    let place : ℕ = c.loop-place.place in
    let before : List Change = c.loop-place.changes.items in
    let within : place < length rows =
    omega (
      arith,
      c.loop-place-test.true,
      rows-count c.self.inside.width c.self.inside.count c.self.inside.numbers.items,
      ap (λ (b : NewRows). length b.rows) c.self.view_is,
    ) in
    let row : List Change = row_changes c.dart_at.result 0 c.row_at.result.now in
    let behind : List Change = rows_changes (c.args.self.now.first + (place + 1)) (drop (place + 1) rows) in
    let split : rows_changes (c.args.self.now.first + place) (drop place rows) ≡ row ++ behind =
    rows-split c.args.self.now.first place c.dart_at.result rows c.row_at.result.now within c.dart_at.ensures c.row_at.ensures.row in
    ap (λ (cs : List Change). cs ++ behind) c.in_ok-append_row.ensures
    ∙ append_assoc before row behind
    ∙ ap (λ (cs : List Change). before ++ cs) (sym split)
    ∙ c.loop-place.invariant

pub returns : goal.returns
returns c =
    let rows : List (List ℕ) = c.args.self.now.rows in
    let before : List Change = c.loop-place.changes.items in
    let none : drop c.loop-place.place rows ≡ [] =
    drop_all c.loop-place.place rows (omega (
      arith,
      c.loop-place-test.false,
      rows-count c.self.inside.width c.self.inside.count c.self.inside.numbers.items,
      ap (λ (b : NewRows). length b.rows) c.self.view_is,
    )) in
    sym (append-nil before)
    ∙ sym (ap (λ (rs : List (List ℕ)). before ++ rows_changes (c.args.self.now.first + c.loop-place.place) rs) none)
    ∙ c.loop-place.invariant
