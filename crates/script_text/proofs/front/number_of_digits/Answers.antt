use Rattle.std.proofs.Common.{sym, ◌∙◌}
use Rattle.script_text.proofs.FrontCuts.{numerals-other, numerals-end, numerals-told, numerals-none}
use Rattle.script_text.proofs.front.number_of_digits.Goals as goal

pub returns-then-not-is_behind_word : goal.returns-then-not-is_behind_word
returns-then-not-is_behind_word c =
    let on = rw c.split_at.ensures.back at (sym c.is_behind_word.ensures ∙ c.if-not-is_behind_word.true) in
    numerals-other c.args.line.now c.args.digits c.requires.within c.requires.all on c.requires.more

pub returns-then-is_empty : goal.returns-then-is_empty
returns-then-is_empty c =
    let behind = rw c.split_at.ensures.back at (sym c.is_behind_word.ensures ∙ c.if-not-is_behind_word.false) in
    let none = rw c.split_at.ensures.front at (sym c.is_empty.ensures ∙ c.if-is_empty.true) in
    numerals-end c.args.line.now c.args.digits c.requires.within c.requires.all behind c.requires.begins none

pub returns-then-is_padded : goal.returns-then-is_padded
returns-then-is_padded c =
    let behind = rw c.split_at.ensures.back at (sym c.is_behind_word.ensures ∙ c.if-not-is_behind_word.false) in
    let some = rw c.split_at.ensures.front at (sym c.is_empty.ensures ∙ c.if-is_empty.false) in
    let padded = rw c.split_at.ensures.front at (sym c.is_padded.ensures ∙ c.if-is_padded.true) in
    numerals-none c.args.line.now c.args.digits c.requires.within c.requires.all behind some c.requires.few padded

pub returns : goal.returns
returns c =
    let behind = rw c.split_at.ensures.back at (sym c.is_behind_word.ensures ∙ c.if-not-is_behind_word.false) in
    let some = rw c.split_at.ensures.front at (sym c.is_empty.ensures ∙ c.if-is_empty.false) in
    let plain = rw c.split_at.ensures.front at (sym c.is_padded.ensures ∙ c.if-is_padded.false) in
    rw (c.split_at.ensures.back, c.requires.value) (numerals-told c.args.line.now c.args.digits c.requires.within c.requires.all behind some c.requires.few plain)
