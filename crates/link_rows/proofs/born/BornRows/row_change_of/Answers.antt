use Rattle.std.proofs.Common.{◌≡◌, ◌<◌, ◌+◌, ◌-◌, ℕ, List, [], length, get_or, ap, sym, ◌∙◌, arith}
use Rattle.std.proofs.lemmas.List.{get_or_past}
use Rattle.map_defs.specs.Edits.{Change}
use Rattle.link_rows.specs.BornRows.{NewRows, rows_of}
use Rattle.link_rows.proofs.BornChanges.{rows-told, rows-tell, rows-count, row-wide, place-below}
use Rattle.link_rows.proofs.born.BornRows.row_change_of.Goals.{then-number-first-via-then-number-first, then-number-first-via-else-number-first+then-link-self}
use Rattle.link_rows.proofs.born.BornRows.row_change_of.Goals as goal

pub returns-then-number-first-clause-none : goal.returns-then-number-first-clause-none
returns-then-number-first-clause-none c = λ _ change held dart link.
    let born = c.self.inside in
    let told = rows-told c.args.self.now.first c.args.self.now.rows change held in
    let first : born.first ≡ c.args.self.now.first = ap (λ (b : NewRows). b.first) c.self.view_is in
    let rows : rows_of born.width born.count born.numbers.items ≡ c.args.self.now.rows = ap (λ (b : NewRows). b.rows) c.self.view_is in
    let place : told.place < born.count = place-below born.width born.count told.place born.numbers.items _ rows told.within in
    let wide : length (get_or c.args.self.now.rows told.place []) ≡ born.width =
    ap (λ (rs : List (List ℕ)). length (get_or rs told.place [])) (sym rows)
    ∙ row-wide born.width born.count told.place born.numbers.items c.self.invariant.0 place in
    elim c.then-number-first.branch [
      | then-number-first-via-then-number-first w ↦ omega (arith, w.if-number-first.true, told.dart, c.number-number.ensures.same, c.number-first.ensures.same)
      | then-number-first-via-else-number-first+then-link-self w ↦
          told.some (told.new ∙ get_or_past (get_or c.args.self.now.rows told.place []) change.link 0 (omega (arith, w.if-link-self.true)))
    ]

pub returns-then-place-self-clause-none : goal.returns-then-place-self-clause-none
returns-then-place-self-clause-none c = λ _ change held dart link.
    let told = rows-told c.args.self.now.first c.args.self.now.rows change held in
    let first : c.self.inside.first ≡ c.args.self.now.first = ap (λ (b : NewRows). b.first) c.self.view_is in
    let count : c.self.inside.count ≡ length c.args.self.now.rows =
    sym (rows-count c.self.inside.width c.self.inside.count c.self.inside.numbers.items) ∙ ap (λ (b : NewRows). length b.rows) c.self.view_is in
    let within = told.within in
    let at = told.dart in
    omega (arith, c.if-place-self.true, c.number-number.ensures.same, c.number-first.ensures.same)

pub row_at-requires : goal.row_at-requires
row_at-requires c =
    let count : c.self.inside.count ≡ length c.args.self.now.rows =
    sym (rows-count c.self.inside.width c.self.inside.count c.self.inside.numbers.items) ∙ ap (λ (b : NewRows). length b.rows) c.self.view_is in
    omega (arith, c.if-place-self.false)

pub returns-then-new-eq0-clause-none : goal.returns-then-new-eq0-clause-none
returns-then-new-eq0-clause-none c = λ _ change held dart link.
    let told = rows-told c.args.self.now.first c.args.self.now.rows change held in
    let first : c.self.inside.first ≡ c.args.self.now.first = ap (λ (b : NewRows). b.first) c.self.view_is in
    let place : told.place ≡ c.number-number.result - c.number-first.result =
    omega (arith, told.dart, c.number-number.ensures.same, c.number-first.ensures.same) in
    told.some (
    told.new ∙ (λ k. get_or (get_or c.args.self.now.rows (place k) []) (link k) 0)
    ∙ ap (λ (row : List ℕ). get_or row c.args.link 0) (sym c.row_at.ensures.row) ∙ c.if-new-eq0.true
    )

pub returns-clause-some : goal.returns-clause-some
returns-clause-some c =
    let rows : List (List ℕ) = c.args.self.now.rows in
    let place : ℕ = c.number-number.result - c.number-first.result in
    let change : Change = c.new.result in
    let first : c.self.inside.first ≡ c.args.self.now.first = ap (λ (b : NewRows). b.first) c.self.view_is in
    let dart : change.dart ≡ c.args.dart = ap (λ (x : Change). x.dart) c.new.ensures in
    let link : change.link ≡ c.args.link = ap (λ (x : Change). x.link) c.new.ensures in
    let to : change.new ≡ get_or c.row_at.result.now c.args.link 0 = ap (λ (x : Change). x.new) c.new.ensures in
    let read : get_or c.row_at.result.now c.args.link 0 ≡ get_or (get_or rows place []) change.link 0 =
    λ k. get_or (c.row_at.ensures.row k) (sym link k) 0 in
    let at : change.dart ≡ c.args.self.now.first + place =
    omega (arith, c.if-number-first.false, c.number-number.ensures.same, c.number-first.ensures.same) in (
      rows-tell c.args.self.now.first rows place change at (ap (λ (x : Change). x.old) c.new.ensures) (to ∙ read)
          (λ none. c.if-new-eq0.false (sym to ∙ none)),
      dart,
      link,
    )
