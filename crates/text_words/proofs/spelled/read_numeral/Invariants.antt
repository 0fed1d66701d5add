use Rattle.std.proofs.Common.{◌≡◌, ◌^◌, ◌<◌, true, take}
use Rattle.std.specs.List.{list_all}
use Rattle.std.specs.Char.{is_ascii_digit}
use Rattle.map_defs.specs.TextWords.{value_of}
use Rattle.text_words.proofs.spelled.read_numeral.Given as goal

abbrev pub invariant-loop-byte : goal.invariant-loop-byte
invariant-loop-byte l =
    (list_all is_ascii_digit (take l.byte-index l.word) ≡ true)
    × (l.value ≡ value_of (take l.byte-index l.word))
    × (l.value < 10 ^ l.byte-index)
