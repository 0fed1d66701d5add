use Rattle.std.proofs.Common.{◌≡◌, ◌+◌, length}
use Rattle.text_words.specs.Taking.{words_in}
use Rattle.off_text.proofs.read.corner_fault.Given as goal

abbrev pub invariant-loop : goal.invariant-loop
invariant-loop l = length (words_in l.text) ≡ l.counter + length (words_in l.rest)
