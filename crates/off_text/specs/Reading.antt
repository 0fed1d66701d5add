-- Lines and corners, one after the other.
use Rattle.std.specs.Prelude.{ℕ, ◌-◌, ◌==◌, ◌&&◌, not, nat_lt, Bool, List, [], ◌∷◌, ◌++◌, length, Result, Ok, Err, if◌then◌else◌}
use Rattle.map_defs.specs.TextWords.{value_of, is_comment_sign}
use Rattle.text_words.specs.Taking.{is_text_byte}
use Rattle.map_defs.specs.Off.{What, TextFault, Left, Short, BadIndex, is_below, ◌>>=◌}

abbrev pub is_line_feed : ℕ → Bool
is_line_feed b = b == 10

-- a blank or a printed character, but none that begins a comment
abbrev pub is_plain : ℕ → Bool
is_plain b = is_text_byte b && not (is_comment_sign b)

-- a corner and the words behind it, where so many words are owed, with this one
abbrev pub corner_of : ℕ → ℕ → List (List ℕ) → Result (ℕ × List (List ℕ)) What
corner_of points owed [] = Err Short
corner_of points owed (word ∷ words) =
    if is_below points word then Ok (value_of word, words)
    else (if nat_lt (length words) (owed - 1) then Err Short else Err BadIndex)

-- a thing that is read stands behind those before it
abbrev pub pushed : {A : Type 0} → List A → Result (A × Left) TextFault → Result (List A × Left) TextFault
pushed front read = read >>= λ x. Ok (front ++ x.0 ∷ [], x.1)
