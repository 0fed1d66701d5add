use Rattle.std.proofs.Common.{◌≡◌, ◌<◌, ◌≤◌, ◌+◌, ◌*◌, ◌++◌, ℕ, List, [], length, take, drop, get_or, set, ap, sym, ◌∙◌, arith, append-nil}
use Rattle.std.proofs.lemmas.List.{drop_all, length-set, take_all}
use Rattle.link_rows.specs.BornRows.{NewRows, rows_of}
use Rattle.link_rows.proofs.BornChanges.{place-below, row-wide, row-within, rows-put-more}
use Rattle.link_rows.proofs.born.BornRows.put.Goals as goal

pub overflow_mul-start : goal.overflow_mul-start
overflow_mul-start g c =
    let born = c.self.inside in
    let place = place-below born.width born.count c.args.place born.numbers.items _ (ap (λ (b : NewRows). b.rows) c.self.view_is) c.requires.place in
    omega (arith, row-within c.args.place born.count born.width place, c.self.invariant.0, born.numbers.ok.0, born.numbers.ok.1, born.numbers.small)

pub overflow_add-start : goal.overflow_add-start
overflow_add-start g c =
    let born = c.self.inside in
    let place = place-below born.width born.count c.args.place born.numbers.items _ (ap (λ (b : NewRows). b.rows) c.self.view_is) c.requires.place in
    let wide : born.width ≡ c.args.self.now.width = ap (λ (b : NewRows). b.width) c.self.view_is in
    let link : c.loop-link.link < born.width = omega (arith, c.loop-link-test.true, c.width-link-end.ensures.width, c.requires.width) in
    omega (arith, row-within c.args.place born.count born.width place, c.self.invariant.0, born.numbers.ok.0, born.numbers.ok.1, born.numbers.small)

pub index_mut-requires : goal.index_mut-requires
index_mut-requires g c =
    let born = c.self.inside in
    let new = c.loop-link.self-inside in
    let kept = c.loop-link.invariant in
    let place = place-below born.width born.count c.args.place born.numbers.items _ (ap (λ (b : NewRows). b.rows) c.self.view_is) c.requires.place in
    let wide : born.width ≡ c.args.self.now.width = ap (λ (b : NewRows). b.width) c.self.view_is in
    let link : c.loop-link.link < born.width = omega (arith, c.loop-link-test.true, c.width-link-end.ensures.width, c.requires.width) in
    let long : length new.numbers.items ≡ born.count * born.width = kept.1 ∙ (λ k. kept.4 k * kept.3 k) in
    omega (arith, row-within c.args.place born.count born.width place, long, new.numbers.ok.0)

pub loop-link-preserved : goal.loop-link-preserved
loop-link-preserved g c =
    let born = c.self.inside in
    let new = c.loop-link.self-inside in
    let kept = c.loop-link.invariant in
    let rows : rows_of born.width born.count born.numbers.items ≡ c.args.self.now.rows = ap (λ (b : NewRows). b.rows) c.self.view_is in
    let place = place-below born.width born.count c.args.place born.numbers.items _ rows c.requires.place in
    let wide : born.width ≡ c.args.self.now.width = ap (λ (b : NewRows). b.width) c.self.view_is in
    let link : c.loop-link.link < new.width = omega (arith, c.loop-link-test.true, c.width-link-end.ensures.width, c.requires.width, kept.3) in
    let old : length (get_or c.args.self.now.rows c.args.place []) ≡ new.width =
    ap (λ (rs : List (List ℕ)). length (get_or rs c.args.place [])) (sym rows)
    ∙ row-wide born.width born.count c.args.place born.numbers.items c.self.invariant.0 place ∙ sym kept.3 in
    let long : length c.args.row.now ≡ new.width = omega (arith, c.width-link-end.ensures.long, c.requires.width, wide, kept.3) in
    let at : c.args.place * born.width + c.loop-link.link ≡ c.args.place * new.width + c.loop-link.link =
    ap (λ (w : ℕ). c.args.place * w + c.loop-link.link) (sym kept.3) in (
      ap (λ (y : ℕ). rows_of new.width new.count (set new.numbers.items (c.args.place * born.width + c.loop-link.link) y)) c.entry.ensures
          ∙ rows-put-more new.width new.count c.args.place c.loop-link.link (c.args.place * born.width + c.loop-link.link) new.numbers.items c.args.self.now.rows
          c.args.row.now kept.0 (omega (arith, place, kept.4)) c.requires.place old long link at,
      length-set new.numbers.items (c.args.place * born.width + c.loop-link.link) c.entry.result ∙ kept.1,
      kept.2,
      kept.3,
      kept.4,
      kept.5,
    )

pub returns : goal.returns
returns g c =
    let born = c.self.inside in
    let new = c.loop-link.self-inside in
    let kept = c.loop-link.invariant in
    let link : ℕ = c.loop-link.link in
    let row : List ℕ = c.args.row.now in
    let before : List ℕ = get_or c.args.self.now.rows c.args.place [] in
    let rows : rows_of born.width born.count born.numbers.items ≡ c.args.self.now.rows = ap (λ (b : NewRows). b.rows) c.self.view_is in
    let place = place-below born.width born.count c.args.place born.numbers.items _ rows c.requires.place in
    let wide : born.width ≡ c.args.self.now.width = ap (λ (b : NewRows). b.width) c.self.view_is in
    let old : length before ≡ born.width =
    ap (λ (rs : List (List ℕ)). length (get_or rs c.args.place [])) (sym rows)
    ∙ row-wide born.width born.count c.args.place born.numbers.items c.self.invariant.0 place in
    let end : born.width ≤ link = omega (arith, c.loop-link-test.false, c.width-link-end.ensures.width, c.requires.width) in
    let all : take link row ≡ row = take_all link row (omega (arith, c.width-link-end.ensures.long, c.requires.width)) in
    let none : drop link before ≡ [] = drop_all link before (omega arith) in
    let mixed : take link row ++ drop link before ≡ row = (λ k. all k ++ none k) ∙ append-nil row in
    let put : rows_of new.width new.count new.numbers.items ≡ set c.args.self.now.rows c.args.place row =
    kept.0 ∙ ap (set c.args.self.now.rows c.args.place) mixed in
    let firsts : new.first ≡ c.args.self.now.first = kept.2 ∙ ap (λ (b : NewRows). b.first) c.self.view_is in
    let widths : new.width ≡ c.args.self.now.width = kept.3 ∙ wide in
    let backs : new.back ≡ c.args.self.now.back = kept.5 ∙ ap (λ (b : NewRows). b.back) c.self.view_is in
    λ k. let now : NewRows = record { first = firsts k; width = widths k; rows = put k; back = backs k } in now
