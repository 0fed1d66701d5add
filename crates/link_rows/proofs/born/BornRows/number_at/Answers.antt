use Rattle.std.proofs.Common.{◌≡◌, ◌<◌, ◌+◌, ◌*◌, ℕ, List, [], length, get_or, ap, ◌∙◌, arith}
use Rattle.std.proofs.lemmas.List.{get_or_default}
use Rattle.link_rows.specs.BornRows.{NewRows, rows_of}
use Rattle.link_rows.proofs.BornChanges.{number-at, place-below, row-within}
use Rattle.link_rows.proofs.born.BornRows.number_at.Goals as goal

pub overflow_mul-place : goal.overflow_mul-place
overflow_mul-place c =
    let born = c.self.inside in
    let place = place-below born.width born.count c.args.place born.numbers.items _ (ap (λ (b : NewRows). b.rows) c.self.view_is) c.requires.place in
    omega (arith, row-within c.args.place born.count born.width place, c.self.invariant.0, born.numbers.ok.0, born.numbers.ok.1, born.numbers.small)

pub overflow_add-place : goal.overflow_add-place
overflow_add-place c =
    let born = c.self.inside in
    let place = place-below born.width born.count c.args.place born.numbers.items _ (ap (λ (b : NewRows). b.rows) c.self.view_is) c.requires.place in
    let wide : born.width ≡ c.args.self.now.width = ap (λ (b : NewRows). b.width) c.self.view_is in
    omega (
      arith,
      row-within c.args.place born.count born.width place,
      c.self.invariant.0,
      born.numbers.ok.0,
      born.numbers.ok.1,
      born.numbers.small,
      c.requires.link,
    )

pub index-requires : goal.index-requires
index-requires c =
    let born = c.self.inside in
    let place = place-below born.width born.count c.args.place born.numbers.items _ (ap (λ (b : NewRows). b.rows) c.self.view_is) c.requires.place in
    let wide : born.width ≡ c.args.self.now.width = ap (λ (b : NewRows). b.width) c.self.view_is in
    omega (arith, row-within c.args.place born.count born.width place, c.self.invariant.0, born.numbers.ok.0, c.requires.link)

pub returns : goal.returns
returns c =
    let born = c.self.inside in
    let rows : rows_of born.width born.count born.numbers.items ≡ c.args.self.now.rows = ap (λ (b : NewRows). b.rows) c.self.view_is in
    let place = place-below born.width born.count c.args.place born.numbers.items _ rows c.requires.place in
    let wide : born.width ≡ c.args.self.now.width = ap (λ (b : NewRows). b.width) c.self.view_is in
    let link : c.args.link < born.width = omega (arith, c.requires.link) in
    let i : ℕ = c.args.place * born.width + c.args.link in
    let within : i < length born.numbers.items = omega (arith, row-within c.args.place born.count born.width place, c.self.invariant.0) in
    c.index.ensures ∙ get_or_default born.numbers.items i c.index.result.now 0 within
    ∙ number-at born.width born.count c.args.place c.args.link born.numbers.items place link
    ∙ ap (λ (rs : List (List ℕ)). get_or (get_or rs c.args.place []) c.args.link 0) rows
