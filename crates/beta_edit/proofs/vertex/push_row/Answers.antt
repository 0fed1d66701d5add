use Rattle.std.proofs.Common.{ℕ, List, slice_set, ap, ◌∙◌, arith}
use Rattle.link_rows.specs.BornRows.{NewRows}
use Rattle.beta_edit.proofs.AddedRows.{row-replaced}
use Rattle.beta_edit.proofs.SplitEntries.{split-row}
use Rattle.beta_edit.proofs.vertex.push_row.Goals as goal

pub returns : goal.returns
returns g c = λ L same.
    let born : NewRows = c.args.born.now in
    let with_rows : List (List ℕ) → NewRows = λ rows. record { first = born.first; width = born.width; rows = rows; back = born.back } in
    let put = rw (c.in_ok-push.ensures, c.number.ensures.same) at c.set.ensures in (
      slice_set c.args.row.now 0 c.args.dart,
      put ∙ ap with_rows (row-replaced born.rows c.args.row.now c.args.place (λ (row : List ℕ). slice_set row 0 c.args.dart) c.requires.place),
      split-row L c.args.dart c.args.row.now (omega (arith, c.width.ensures.long)) same,
    )
