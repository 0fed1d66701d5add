-- What the rules `xor` and `span` do.
use Rattle.std.specs.Prelude.{Some}
use Rattle.std.proofs.Common.{ap}
use Rattle.std.specs.Int.{w64, int_bit_xor, int_min, int_max}
use Rattle.map_defs.specs.Values.{Meaning, KeepsWhole, on_each, held_sum, dealt}
use Rattle.value_laws.proofs.Rules.{dealt_whole}

-- the bitwise exclusive or of each number, and each piece gets the whole value
abbrev pub exclusive_or : Meaning
exclusive_or = record { merged = on_each (int_bit_xor w64); share = λ v k p. Some v }

-- the least, the greatest and the sum, and each piece gets the first two whole and its part of the third
abbrev pub spanned : Meaning
spanned = record {
  merged = λ x y. record { a = int_min x.a y.a; b = int_max x.b y.b; c = held_sum x.c y.c };
  share = λ v k p. Some (record { a = v.a; b = v.b; c = dealt k p v.c });
}

pub spanned-whole : KeepsWhole spanned
spanned-whole v held = ap (λ c. Some (record { a = v.a; b = v.b; c = c })) (dealt_whole v.c)
