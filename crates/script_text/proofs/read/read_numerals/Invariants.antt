use Rattle.std.proofs.Common.{◌≡◌, map, drop}
use Rattle.machine_defs.specs.Script.{numerals}
use Rattle.script_text.specs.Reading.{now_of}
use Rattle.script_text.proofs.ReadWords.{behind}
use Rattle.script_text.proofs.read.read_numerals.Given as goal

abbrev pub invariant-loop-word : goal.invariant-loop-word
invariant-loop-word l = numerals (map now_of l.words) ≡ behind l.numbers.items (numerals (map now_of (drop l.word-index l.words)))
