use Rattle.std.proofs.Common.{◌≡◌, ◌^◌, ◌<◌, ◌≤◌, true, take}
use Rattle.std.specs.List.{list_all}
use Rattle.std.specs.Char.{is_ascii_digit}
use Rattle.map_defs.specs.TextWords.{value_of}
use Rattle.script_text.proofs.front.number_at_front.Given as goal

abbrev pub invariant-loop-byte : goal.invariant-loop-byte
invariant-loop-byte l =
    (l.digits ≡ l.byte-index)
    × (l.digits ≤ 19)
    × (list_all is_ascii_digit (take l.byte-index l.line) ≡ true)
    × (l.value ≡ value_of (take l.byte-index l.line))
    × (l.value < 10 ^ l.byte-index)
