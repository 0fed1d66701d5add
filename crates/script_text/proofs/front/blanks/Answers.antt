use Rattle.std.proofs.Common.{ℕ, not, length, Option, unwrap_or, ◌∙◌, ap, rules, tests}
use Rattle.std.proofs.lemmas.Iterator.{YieldsList-from_slice}
use Rattle.std.proofs.lemmas.Iterator.Search.{position_from_yields_List}
use Rattle.map_defs.specs.TextWords.{is_blank}
use Rattle.text_words.proofs.FirstPlaces.{unwrap_or-position}
use Rattle.script_text.proofs.front.blanks.Goals as goal

pub returns-clause-place : goal.returns-clause-place
returns-clause-place c =
    let xs = c.args.line.now in
    let place = position_from_yields_List (λ b. not (is_blank b)) _ _ c.position.result c.position.ensures.ran (YieldsList-from_slice xs cc) (λ x b q k. search (rules, tests)) in
    c.unwrap_or.ensures ∙ (ap (λ (o : Option ℕ). unwrap_or o (length xs)) place ∙ unwrap_or-position (λ b. not (is_blank b)) xs)
