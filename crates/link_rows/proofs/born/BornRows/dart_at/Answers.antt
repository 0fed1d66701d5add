use Rattle.std.proofs.Common.{ap, arith}
use Rattle.link_rows.specs.BornRows.{NewRows}
use Rattle.link_rows.proofs.BornChanges.{place-below}
use Rattle.link_rows.proofs.born.BornRows.dart_at.Goals as goal

pub overflow_cast-place : goal.overflow_cast-place
overflow_cast-place c =
    let born = c.self.inside in
    let place = place-below born.width born.count c.args.place born.numbers.items _ (ap (λ (b : NewRows). b.rows) c.self.view_is) c.requires in
    omega (arith, place, c.self.invariant.1)

pub overflow_add-number : goal.overflow_add-number
overflow_add-number c =
    let born = c.self.inside in
    let place = place-below born.width born.count c.args.place born.numbers.items _ (ap (λ (b : NewRows). b.rows) c.self.view_is) c.requires in
    omega (arith, place, c.self.invariant.1, c.number.ensures.same)
