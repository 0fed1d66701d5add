use Rattle.std.proofs.Common.{length, sym, ap, ◌∙◌}
use Rattle.link_rows.specs.BornRows.{NewRows}
use Rattle.link_rows.proofs.BornChanges.{rows-count}
use Rattle.link_rows.proofs.born.BornRows.len.Goals as goal

pub returns : goal.returns
returns c =
    sym (rows-count c.self.inside.width c.self.inside.count c.self.inside.numbers.items) ∙ ap (λ (b : NewRows). length b.rows) c.self.view_is
