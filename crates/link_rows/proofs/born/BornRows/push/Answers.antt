use Rattle.std.proofs.Common.{◌≡◌, ◌+◌, ◌*◌, ◌++◌, ℕ, suc, List, [], ◌∷◌, length, take, ap, sym, ◌∙◌, arith, add-one, length-append}
use Rattle.std.proofs.lemmas.List.{take_all}
use Rattle.link_rows.specs.BornRows.{NewRows, rows_of}
use Rattle.link_rows.proofs.BornChanges.{rows-count, rows-long, rows-more, back-within}
use Rattle.link_rows.proofs.born.BornRows.push.Goals as goal

pub invariant_of-self-2 : goal.invariant_of-self-2
invariant_of-self-2 g c =
    let old = c.self.inside in
    let new = c.loop-link.self-inside in
    let row : List ℕ = c.args.row.now in
    let kept = c.loop-link.invariant in
    let wide : old.width ≡ c.args.self.now.width = ap (λ (b : NewRows). b.width) c.self.view_is in
    let long : length row ≡ old.width = omega (arith, c.width.ensures.long, c.requires.width, wide) in
    let all : take c.loop-link.link row ≡ row = take_all c.loop-link.link row (omega (arith, c.width-link-end.ensures.width, c.width.ensures.long)) in
    let items : length new.numbers.items ≡ length old.numbers.items + length row =
    ap length (kept.0 ∙ ap₂-append c.reserve.ensures.items all) ∙ length-append old.numbers.items row in
    let first : old.first ≡ c.args.self.now.first = ap (λ (b : NewRows). b.first) c.self.view_is in
    let count : old.count ≡ length c.args.self.now.rows =
    sym (rows-count old.width old.count old.numbers.items) ∙ ap (λ (b : NewRows). length b.rows) c.self.view_is in (
      items ∙ omega (arith, c.self.invariant.0, long, rows-long old.count old.width) ∙ (λ k. (sym kept.4 k + 1) * sym kept.3 k),
      omega (arith, kept.2, kept.4, c.requires.few, first, count),
      back-within kept.5 kept.3 c.self.invariant.2,
    )
  where
    ap₂-append : {xs ys zs ws : List ℕ} → xs ≡ ys → zs ≡ ws → xs ++ zs ≡ ys ++ ws
    ap₂-append p q = λ k. p k ++ q k

pub returns : goal.returns
returns g c =
    let old = c.self.inside in
    let row : List ℕ = c.args.row.now in
    let kept = c.loop-link.invariant in
    let wide : old.width ≡ c.args.self.now.width = ap (λ (b : NewRows). b.width) c.self.view_is in
    let first : old.first ≡ c.args.self.now.first = ap (λ (b : NewRows). b.first) c.self.view_is in
    let rows : rows_of old.width old.count old.numbers.items ≡ c.args.self.now.rows = ap (λ (b : NewRows). b.rows) c.self.view_is in
    let long : length row ≡ old.width = omega (arith, c.width.ensures.long, c.requires.width, wide) in
    let all : take c.loop-link.link row ≡ row = take_all c.loop-link.link row (omega (arith, c.width-link-end.ensures.width, c.width.ensures.long)) in
    let items : c.loop-link.self-inside.numbers.items ≡ old.numbers.items ++ row = kept.0 ∙ (λ k. c.reserve.ensures.items k ++ all k) in
    let count : c.loop-link.self-inside.count + 1 ≡ suc old.count = ap (λ (m : ℕ). m + 1) kept.4 ∙ add-one old.count in
    let more : rows_of c.loop-link.self-inside.width (c.loop-link.self-inside.count + 1) c.loop-link.self-inside.numbers.items
    ≡ c.args.self.now.rows ++ row ∷ [] =
    (λ k. rows_of (kept.3 k) (count k) (items k)) ∙ rows-more old.width old.count old.numbers.items row c.self.invariant.0 long
    ∙ ap (λ (rs : List (List ℕ)). rs ++ row ∷ []) rows in
    let firsts : c.loop-link.self-inside.first ≡ c.args.self.now.first = kept.2 ∙ first in
    let widths : c.loop-link.self-inside.width ≡ c.args.self.now.width = kept.3 ∙ wide in
    let backs : c.loop-link.self-inside.back ≡ c.args.self.now.back = kept.5 ∙ ap (λ (b : NewRows). b.back) c.self.view_is in
    λ k. let born : NewRows = record { first = firsts k; width = widths k; rows = more k; back = backs k } in born
