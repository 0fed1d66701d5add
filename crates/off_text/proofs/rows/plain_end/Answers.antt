use Rattle.std.proofs.Common.{ℕ, Option, length, not, unwrap_or, ◌∙◌, ap, rules, tests}
use Rattle.std.proofs.lemmas.Iterator.{YieldsList-from_slice}
use Rattle.std.proofs.lemmas.Iterator.Search.{position_from_yields_List}
use Rattle.text_words.proofs.FirstPlaces.{unwrap_or-position}
use Rattle.off_text.specs.Reading.{is_plain}
use Rattle.off_text.proofs.rows.plain_end.Goals as goal

pub returns-clause-place : goal.returns-clause-place
returns-clause-place c =
    let xs = c.args.text.now in
    let place = position_from_yields_List (λ b. not (is_plain b)) _ _ c.position.result c.position.ensures.ran (YieldsList-from_slice xs cc) (λ x b q k. search (rules, tests)) in
    c.unwrap_or.ensures ∙ (ap (λ (o : Option ℕ). unwrap_or o (length xs)) place ∙ unwrap_or-position (λ b. not (is_plain b)) xs)
