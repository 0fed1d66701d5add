-- What makes a numeral of digits: how many they are.
use Rattle.std.specs.Prelude.{ℕ, ◌==◌, nat_le, Bool, false, List, [], ◌∷◌, length, if◌then◌else◌}

-- a 0 stands alone, and at most 18 others stand behind another first digit
abbrev pub may_be_numeral : List ℕ → Bool
may_be_numeral [] = false
may_be_numeral (first ∷ others) = if first == 48 then length others == 0 else nat_le (length others) 18
