use Rattle.std.proofs.Common.{ℕ, drop, ap, ◌∙◌}
use Rattle.std.proofs.lemmas.List.{take_rest}
use Rattle.script_text.proofs.FrontCuts.{words_of-blanks, blanks-behind}
use Rattle.script_text.proofs.front.take_number.Goals as goal

pub number_at_front-requires : goal.number_at_front-requires
number_at_front-requires c =
    let line = c.args.line.now in
    let is = take_rest line c.blanks.result ∙ ap (λ (n : ℕ). drop n line) c.blanks.ensures.place in
    rw is (blanks-behind line)

pub returns : goal.returns
returns c =
    let line = c.args.line.now in
    let is = take_rest line c.blanks.result ∙ ap (λ (n : ℕ). drop n line) c.blanks.ensures.place in
    rw (words_of-blanks line) (rw is at c.number_at_front.ensures)
