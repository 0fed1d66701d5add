use Rattle.std.proofs.Common.{ℕ, ◌+◌, List, take, not, sym, ◌∙◌, arith}
use Rattle.std.specs.List.{position_or_len}
use Rattle.std.proofs.lemmas.List.{take_rest}
use Rattle.text_words.proofs.WordCuts.{words_in-text}
use Rattle.off_text.specs.Reading.{is_plain}
use Rattle.off_text.proofs.Cuts.{lines_of-first}
use Rattle.off_text.proofs.PlainLines.{plain-front, feed-place, plain-whole, plain-text}
use Rattle.off_text.proofs.rows.plain_line.Goals as goal

pub returns-clause-lines : goal.returns-clause-lines
returns-clause-lines c =
    let text = c.args.text.now in
    let end = c.plain_end-end.result in
    let place = feed-place text (rw c.plain_end-end.ensures.place at c.if-text-end-ne10.false) in
    rw (take_rest text (end + 1), c.plain_end-end.ensures.place, sym place) (lines_of-first text (omega arith))

pub returns-clause-whole : goal.returns-clause-whole
returns-clause-whole c = rw c.plain_end-end.ensures.place (plain-whole _ (plain-front c.args.text.now))

pub returns-clause-words : goal.returns-clause-words
returns-clause-words c =
    let text = c.args.text.now in
    let line : List ℕ = take (position_or_len (λ b. not (is_plain b)) text) text in
    rw c.plain_end-end.ensures.place (words_in-text line ∙ plain-text line (plain-front text))
