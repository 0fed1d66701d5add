use Rattle.std.proofs.Common.{rules, ◌≡◌, ◌≢◌, ◌≤◌, ℕ, zero, suc, List, codes, sym, ◌∙◌, arith, lit<}
use Rattle.std.specs.Fmt.{decimal}
use Rattle.std.proofs.lemmas.Fmt.{decimal_digit}
use Rattle.map_run.proofs.command.read_dimension.Goals as goal

pub returns-then-eq : goal.returns-then-eq
returns-then-eq c = let is : c.args.word.now ≡ codes "2" = search rules in is ∙ sym (decimal_digit 2 (lit< tt))

pub returns-then-eq-2 : goal.returns-then-eq-2
returns-then-eq-2 c = let is : c.args.word.now ≡ codes "3" = search rules in is ∙ sym (decimal_digit 3 (lit< tt))

pub returns-then-eq-3 : goal.returns-then-eq-3
returns-then-eq-3 c = let is : c.args.word.now ≡ codes "4" = search rules in is ∙ sym (decimal_digit 4 (lit< tt))

-- the word writes none of the three numbers
none : (word : List ℕ) (n : ℕ) → word ≢ codes "2" → word ≢ codes "3" → word ≢ codes "4" → 2 ≤ n → n ≤ 4 → word ≡ decimal n → ⊥
none word zero two three four low high is = absurd (omega arith)
none word (suc zero) two three four low high is = absurd (omega arith)
none word (suc (suc zero)) two three four low high is = two (is ∙ decimal_digit 2 (lit< tt))
none word (suc (suc (suc zero))) two three four low high is = three (is ∙ decimal_digit 3 (lit< tt))
none word (suc (suc (suc (suc zero)))) two three four low high is = four (is ∙ decimal_digit 4 (lit< tt))
none word (suc (suc (suc (suc (suc n))))) two three four low high is = absurd (omega arith)

pub returns-else-eq-3 : goal.returns-else-eq-3
returns-else-eq-3 c = λ n.
    let two : c.args.word.now ≢ codes "2" = search rules in
    let three : c.args.word.now ≢ codes "3" = search rules in
    let four : c.args.word.now ≢ codes "4" = search rules in
    none c.args.word.now n two three four
