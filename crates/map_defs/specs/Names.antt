-- Names, as scripts give them to marks and callers to rules. Source: this project's.
use Rattle.std.specs.Prelude.{ℕ, ◌==◌, nat_le, ◌||◌, ◌&&◌, Bool, List, length}
use Rattle.std.specs.List.{list_all}
use Rattle.std.specs.Char.{is_ascii_digit, is_ascii_lowercase}

-- a small letter, a digit or an underscore
abbrev pub is_name_byte : ℕ → Bool
is_name_byte b = is_ascii_lowercase b || is_ascii_digit b || (b == 95)

-- a name has 1 to 32 of them
abbrev pub is_name : List ℕ → Bool
is_name word = nat_le 1 (length word) && nat_le (length word) 32 && list_all is_name_byte word
