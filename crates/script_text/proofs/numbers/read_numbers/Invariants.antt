use Rattle.std.proofs.Common.{◌≡◌, ◌-◌, length}
use Rattle.machine_defs.specs.Script.{numerals}
use Rattle.map_defs.specs.TextWords.{words_of}
use Rattle.script_text.specs.Numbers.{given}
use Rattle.script_text.proofs.ReadWords.{behind}
use Rattle.script_text.proofs.numbers.read_numbers.Given as goal

abbrev pub invariant-loop-number : goal.invariant-loop-number
invariant-loop-number l = numerals (words_of l.line) ≡ behind (given l.numbers) (numerals (words_of l.rest))

-- how many more numbers there is room for
abbrev pub decreases-loop-number : goal.decreases-loop-number
decreases-loop-number l = 3 - length (given l.numbers)
