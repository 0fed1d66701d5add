use Rattle.std.proofs.Common.{sym, rules}
use Rattle.map_defs.specs.TextWords.{words_of}
use Rattle.script_text.specs.Meanings.{line_meaning}
use Rattle.script_text.proofs.NumberLines.{told-by_numbers}
use Rattle.script_text.proofs.read.read_words.Goals as goal

pub returns-in-Some : goal.returns-in-Some
returns-in-Some c =
    let same = sym c.in-Some.ensures in
    told-by_numbers c.args.first.now (words_of c.args.others.now) (line_meaning c.in-Some.line) (search rules)
