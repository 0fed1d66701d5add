use Rattle.std.proofs.Common.{[], ◌≡◌, ◌≤◌, ◌*◌, ◌+◌, ◌-◌, length, ap, sym, arith, rules}
use Rattle.link_rows.specs.BornRows.{NewRows, rows_of}
use Rattle.link_rows.proofs.BornChanges.{row-within, place-below, rows-at}
use Rattle.link_rows.proofs.born.BornRows.row_at.Goals as goal

pub overflow_mul-start : goal.overflow_mul-start
overflow_mul-start c =
    let born = c.self.inside in
    let place = place-below born.width born.count c.args.place born.numbers.items _ (ap (λ (b : NewRows). b.rows) c.self.view_is) c.requires in
    omega (arith, row-within c.args.place born.count born.width place, c.self.invariant.0, born.numbers.ok.0, born.numbers.ok.1, born.numbers.small)

pub overflow_add-result : goal.overflow_add-result
overflow_add-result c =
    let born = c.self.inside in
    let place = place-below born.width born.count c.args.place born.numbers.items _ (ap (λ (b : NewRows). b.rows) c.self.view_is) c.requires in
    omega (arith, row-within c.args.place born.count born.width place, c.self.invariant.0, born.numbers.ok.0, born.numbers.ok.1, born.numbers.small)

pub offset_bounds-deref-start : goal.offset_bounds-deref-start
offset_bounds-deref-start c =
    let born = c.self.inside in
    let place = place-below born.width born.count c.args.place born.numbers.items _ (ap (λ (b : NewRows). b.rows) c.self.view_is) c.requires in
    omega (arith, row-within c.args.place born.count born.width place, c.self.invariant.0, born.numbers.ok.0, born.numbers.ok.1, born.numbers.small)

pub slice_bounds-result-end : goal.slice_bounds-result-end
slice_bounds-result-end c =
    let born = c.self.inside in
    let place = place-below born.width born.count c.args.place born.numbers.items _ (ap (λ (b : NewRows). b.rows) c.self.view_is) c.requires in
    let within : c.args.place * born.width + born.width ≤ length c.deref.result.now =
    omega (arith, row-within c.args.place born.count born.width place, c.self.invariant.0, ap length c.deref.ensures.value) in
    search rules

pub returns-clause-row : goal.returns-clause-row
returns-clause-row c =
    let born = c.self.inside in
    let rows : rows_of born.width born.count born.numbers.items ≡ c.args.self.now.rows = ap (λ (b : NewRows). b.rows) c.self.view_is in
    let wide : c.args.place * born.width + born.width - c.args.place * born.width ≡ born.width = omega arith in
    rw (wide, c.deref.ensures.value, ← rows)
    (sym (rows-at born.width born.count c.args.place born.numbers.items [] (place-below born.width born.count c.args.place born.numbers.items _ rows c.requires)))
