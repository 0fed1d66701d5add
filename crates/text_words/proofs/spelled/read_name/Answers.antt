use Rattle.std.proofs.Common.{sym, ◌∙◌}
use Rattle.std.proofs.lemmas.Bool.{and_parts}
use Rattle.text_words.proofs.NameText.{IsUtf8-name, read_whole}
use Rattle.text_words.proofs.spelled.read_name.Goals as goal

pub returns : goal.returns
returns c =
    let is = sym c.is_name.ensures ∙ c.if-not-is_name.false in
    rw (is, c.ok.ensures.value) (read_whole c.args.word.now c.from_utf8.result _ c.from_utf8.ensures.cases (IsUtf8-name c.args.word.now (and_parts _ _ is).1))
