use Rattle.std.proofs.Common.{ℕ, drop, sym, ap, ◌∙◌}
use Rattle.std.proofs.lemmas.List.{take_rest}
use Rattle.text_words.proofs.WordCuts.{words_in-taken, words_in-none}
use Rattle.text_words.proofs.word.take_word.Goals as goal

pub returns-then-is_empty : goal.returns-then-is_empty
returns-then-is_empty c =
    let text = c.args.text.now in
    words_in-none text _ (take_rest text c.blanks.result ∙ ap (λ (n : ℕ). drop n text) c.blanks.ensures.place) (sym c.is_empty.ensures ∙ c.if-is_empty.true)

pub returns : goal.returns
returns c =
    let text = c.args.text.now in
    words_in-taken text _ _ _ c.word_end.result (take_rest text c.blanks.result ∙ ap (λ (n : ℕ). drop n text) c.blanks.ensures.place)
    (sym c.is_empty.ensures ∙ c.if-is_empty.false) c.word_end.ensures.place c.split_at.ensures.front c.split_at.ensures.back
