-- The words of a text without comments, one after the other.
use Rattle.std.specs.Prelude.{ℕ, ◌≡◌, ◌||◌, Bool, List, [], ◌∷◌, filter, Option, Some, None}
use Rattle.std.specs.List.{slice_split}
use Rattle.std.specs.Char.{is_ascii_graphic}
use Rattle.std.specs.Borrow.{Bor}
use Rattle.map_defs.specs.TextWords.{is_blank, is_word}

-- a blank, or a printed character
abbrev pub is_text_byte : ℕ → Bool
is_text_byte b = is_blank b || is_ascii_graphic b

-- the words of a text that has no comment
abbrev pub words_in : List ℕ → List (List ℕ)
words_in text = filter is_word (slice_split is_blank text)

-- the first of these words, and a text that has the others; nothing exactly where there is no word
abbrev pub TakesWord : Option (Bor (List ℕ) × Bor (List ℕ)) → List (List ℕ) → Type 0
TakesWord (Some x) words = words ≡ x.0.now ∷ words_in x.1.now
TakesWord None words = words ≡ []
