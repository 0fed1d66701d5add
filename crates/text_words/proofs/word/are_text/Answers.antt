use Rattle.std.proofs.Common.{◌∙◌, sym, rules, tests}
use Rattle.std.proofs.lemmas.Iterator.{YieldsList-from_slice}
use Rattle.std.proofs.lemmas.Iterator.Search.{all_from_yields_List}
use Rattle.text_words.specs.Taking.{is_text_byte}
use Rattle.text_words.proofs.WordCuts.{words_in-text}
use Rattle.text_words.proofs.word.are_text.Goals as goal

pub returns : goal.returns
returns c =
    all_from_yields_List is_text_byte _ _ c.all.result c.all.ensures.ran (YieldsList-from_slice c.args.text.now cc) (λ x b q k. search (rules, tests)) ∙ sym (words_in-text c.args.text.now)
