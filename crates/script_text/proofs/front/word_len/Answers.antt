use Rattle.std.proofs.Common.{ℕ, length, Option, unwrap_or, ◌∙◌, ap, rules, tests}
use Rattle.std.proofs.lemmas.Iterator.{YieldsList-from_slice}
use Rattle.std.proofs.lemmas.Iterator.Search.{position_from_yields_List}
use Rattle.script_text.specs.Fronts.{ends_word}
use Rattle.text_words.proofs.FirstPlaces.{unwrap_or-position}
use Rattle.script_text.proofs.front.word_len.Goals as goal

pub returns-clause-place : goal.returns-clause-place
returns-clause-place c =
    let xs = c.args.line.now in
    let place = position_from_yields_List ends_word _ _ c.position.result c.position.ensures.ran (YieldsList-from_slice xs cc) (λ x b q k. search (rules, tests)) in
    c.unwrap_or.ensures ∙ (ap (λ (o : Option ℕ). unwrap_or o (length xs)) place ∙ unwrap_or-position ends_word xs)
