use Rattle.std.proofs.Common.{◌≡◌, ◌<◌, ◌+◌, ◌-◌, ◌++◌, ℕ, List, [], length, drop, refl, ap, sym, ◌∙◌, arith, lit<}
use Rattle.std.proofs.lemmas.List.{drop_all}
use Rattle.map_defs.specs.Edits.{Change, unlinked}
use Rattle.dart_arena.specs.RowChanges.{row_changes}
use Rattle.link_rows.specs.BornRows.{NewRows, rows_changes}
use Rattle.link_rows.proofs.BornChanges.{rows-count, rows-split, rows-narrow, unlinked-append}
use Rattle.link_rows.proofs.born.BornRows.free_row_links.Goals as goal

pub loop-place-init : goal.loop-place-init
loop-place-init g c =
    let rows : List (List ℕ) = c.args.self.now.rows in
    let none : drop c.self.inside.count rows ≡ [] =
    drop_all c.self.inside.count rows (omega (
      arith,
      rows-count c.self.inside.width c.self.inside.count c.self.inside.numbers.items,
      ap (λ (b : NewRows). length b.rows) c.self.view_is,
    )) in (
      sym (ap (λ (rs : List (List ℕ)). unlinked (rows_changes (c.args.self.now.first + c.self.inside.count) rs) c.args.rows.now.rows) none),
      refl,
      refl,
    )

pub dart_at-requires : goal.dart_at-requires
dart_at-requires g c =
    omega (
      arith,
      c.loop-place-test.true,
      c.loop-place.auto.place,
      rows-count c.self.inside.width c.self.inside.count c.self.inside.numbers.items,
      ap (λ (b : NewRows). length b.rows) c.self.view_is,
    )

pub row_at-requires : goal.row_at-requires
row_at-requires g c =
    omega (
      arith,
      c.loop-place-test.true,
      c.loop-place.auto.place,
      rows-count c.self.inside.width c.self.inside.count c.self.inside.numbers.items,
      ap (λ (b : NewRows). length b.rows) c.self.view_is,
    )

pub free_row-requires : goal.free_row-requires
free_row-requires g c =
    rw c.row_at.ensures.row (lit< tt, rows-narrow g.row.DIM c.args.self.now.first c.args.self.now.rows c.requires (c.loop-place.place - 1))

pub loop-place-preserved : goal.loop-place-preserved
loop-place-preserved g c =
    let rows : List (List ℕ) = c.args.self.now.rows in
    let old = c.args.rows.now.rows in
    let place : ℕ = c.loop-place.place - 1 in
    let one : c.loop-place.place ≡ place + 1 = omega (arith, c.loop-place-test.true) in
    let within : place < length rows =
    omega (
      arith,
      c.loop-place-test.true,
      c.loop-place.auto.place,
      rows-count c.self.inside.width c.self.inside.count c.self.inside.numbers.items,
      ap (λ (b : NewRows). length b.rows) c.self.view_is,
    ) in
    let row : List Change = row_changes c.dart_at.result 0 c.row_at.result.now in
    let behind : List Change = rows_changes (c.args.self.now.first + (place + 1)) (drop (place + 1) rows) in
    let split : rows_changes (c.args.self.now.first + place) (drop place rows) ≡ row ++ behind =
    rows-split c.args.self.now.first place c.dart_at.result rows c.row_at.result.now within c.dart_at.ensures c.row_at.ensures.row in
    let kept = c.loop-place.invariant in (
      c.free_row.ensures.rows
          ∙ ap (unlinked row) (kept.0 ∙ ap (λ (m : ℕ). unlinked (rows_changes (c.args.self.now.first + m) (drop m rows)) old) one)
          ∙ sym (unlinked-append row behind old)
          ∙ ap (λ (cs : List Change). unlinked cs old) (sym split),
      c.free_row.ensures.spare ∙ kept.1,
      c.free_row.ensures.room ∙ kept.2,
    )
