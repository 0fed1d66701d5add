use Rattle.std.proofs.Common.{ℕ, ◌≡◌, ◌<◌, drop, refl, sym, ap, ◌∙◌, arith}
use Rattle.std.proofs.lemmas.List.{take_rest}
use Rattle.script_text.specs.Fronts.{blanks}
use Rattle.script_text.proofs.FrontCuts.{word_end, words_of-blanks, blanks-behind, words_of-none, words_of-first}
use Rattle.script_text.proofs.front.take_first.Goals as goal

pub returns-in-0 : goal.returns-in-0
returns-in-0 c =
    let line = c.args.line.now in
    let is = take_rest line c.blanks.result ∙ ap (λ (n : ℕ). drop n line) c.blanks.ensures.place in
    let end : word_end (drop (blanks line) line) ≡ 0 = sym (rw is at c.word_len.ensures.place) ∙ c.in-0.is in
    words_of-blanks line ∙ words_of-none (drop (blanks line) line) (blanks-behind line) end

pub returns-in_default : goal.returns-in_default
returns-in_default c =
    let line = c.args.line.now in
    let is = take_rest line c.blanks.result ∙ ap (λ (n : ℕ). drop n line) c.blanks.ensures.place in
    let end = rw is at c.word_len.ensures.place in
    let long : 0 < word_end (drop (blanks line) line) = omega arith in
    words_of-blanks line ∙ (words_of-first (drop (blanks line) line) long ∙ rw (c.split_at.ensures.front, c.split_at.ensures.back, is, end) refl)
