use Rattle.std.proofs.Common.{◌≡◌, ◌+◌, ◌*◌, ℕ, List, [], get_or, set, refl, ap, ◌∙◌, arith}
use Rattle.link_rows.specs.BornRows.{NewRows, rows_of}
use Rattle.link_rows.proofs.BornChanges.{place-below, row-within, rows-set}
use Rattle.link_rows.proofs.born.BornRows.set.Goals as goal

pub overflow_mul-place : goal.overflow_mul-place
overflow_mul-place c =
    let born = c.self.inside in
    let place = place-below born.width born.count c.args.place born.numbers.items _ (ap (λ (b : NewRows). b.rows) c.self.view_is) c.requires.place in
    omega (arith, row-within c.args.place born.count born.width place, c.self.invariant.0, born.numbers.ok.0, born.numbers.ok.1, born.numbers.small)

pub overflow_add-place : goal.overflow_add-place
overflow_add-place c =
    let born = c.self.inside in
    let place = place-below born.width born.count c.args.place born.numbers.items _ (ap (λ (b : NewRows). b.rows) c.self.view_is) c.requires.place in
    let wide : born.width ≡ c.args.self.now.width = ap (λ (b : NewRows). b.width) c.self.view_is in
    omega (
      arith,
      row-within c.args.place born.count born.width place,
      c.self.invariant.0,
      born.numbers.ok.0,
      born.numbers.ok.1,
      born.numbers.small,
      c.requires.link,
    )

pub index_mut-requires : goal.index_mut-requires
index_mut-requires c =
    let born = c.self.inside in
    let place = place-below born.width born.count c.args.place born.numbers.items _ (ap (λ (b : NewRows). b.rows) c.self.view_is) c.requires.place in
    let wide : born.width ≡ c.args.self.now.width = ap (λ (b : NewRows). b.width) c.self.view_is in
    omega (arith, row-within c.args.place born.count born.width place, c.self.invariant.0, born.numbers.ok.0, c.requires.link)

pub returns : goal.returns
returns c =
    let born = c.self.inside in
    let link : ℕ = c.args.link in
    let rows : rows_of born.width born.count born.numbers.items ≡ c.args.self.now.rows = ap (λ (b : NewRows). b.rows) c.self.view_is in
    let place = place-below born.width born.count c.args.place born.numbers.items _ rows c.requires.place in
    let wide : born.width ≡ c.args.self.now.width = ap (λ (b : NewRows). b.width) c.self.view_is in
    let first : born.first ≡ c.args.self.now.first = ap (λ (b : NewRows). b.first) c.self.view_is in
    let back : born.back ≡ c.args.self.now.back = ap (λ (b : NewRows). b.back) c.self.view_is in
    let put : rows_of born.width born.count (set born.numbers.items (c.args.place * born.width + link) c.args.to)
    ≡ set c.args.self.now.rows c.args.place (set (get_or c.args.self.now.rows c.args.place []) link c.args.to) =
    rows-set born.width born.count c.args.place link c.args.to (c.args.place * born.width + link) born.numbers.items refl place
    (omega (arith, c.requires.link))
    ∙ ap (λ (rs : List (List ℕ)). set rs c.args.place (set (get_or rs c.args.place []) link c.args.to)) rows in
    λ k. let now : NewRows = record { first = first k; width = wide k; rows = put k; back = back k } in now
