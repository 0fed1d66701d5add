use Rattle.std.proofs.Common.{◌≡◌, ◌-◌, ◌++◌, ℕ, zero, List, [], take, replicate, None, refl, ap, ◌∙◌, arith}
use Rattle.std.proofs.lemmas.List.{take_all}
use Rattle.link_rows.specs.BornRows.{NewRows, rows_of}
use Rattle.link_rows.proofs.BornChanges.{rows-zeros}
use Rattle.link_rows.proofs.born.BornRows.zeros.Goals as goal

zeros-only : (n m : ℕ) (xs : List ℕ) → xs ≡ [] → m ≡ 0 → take n xs ++ replicate (n - m) zero ≡ replicate n zero
zeros-only n m xs none small =
    let all : n - m ≡ n = omega arith in
    let cut : take n [] ≡ (let nil : List ℕ = [] in nil) = take_all n [] (omega arith) in
    rw (none, cut, all) refl

pub returns : goal.returns
returns c =
    let n : ℕ = c.in-Some.size in
    let items : c.resize.new.self.items ≡ replicate n zero =
    c.in_ok-resize.ensures.items ∙ zeros-only n _ _ c.new-numbers.ensures.items c.new-numbers.ensures.len in
    ap (λ (rows : List (List ℕ)). let born : NewRows = record { first = c.args.first; width = c.args.width; rows = rows; back = None } in born)
    (ap (rows_of c.args.width c.args.rows) items ∙ rows-zeros c.args.width c.args.rows n c.in-Some.ensures.1)
