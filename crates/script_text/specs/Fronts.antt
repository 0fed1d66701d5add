-- The front of a line that may end with a comment.
use Rattle.std.specs.Prelude.{ℕ, ◌≡◌, ◌==◌, ◌||◌, not, Bool, true, false, List, [], ◌∷◌, Option, Some, None, option_map}
use Rattle.std.specs.List.{position_or_len}
use Rattle.std.specs.Borrow.{Bor}
use Rattle.map_defs.specs.TextWords.{is_blank, is_comment_sign, words_of}
use Rattle.machine_defs.specs.Script.{numerals}
use Rattle.script_text.specs.declared.front.Front.{Front}
use Rattle.script_text.specs.declared.front.Front.TheVariants as front

-- how many blanks stand at the front
abbrev pub blanks : List ℕ → ℕ
blanks line = position_or_len (λ b. not (is_blank b)) line

-- a blank, or the sign that begins a comment
abbrev pub ends_word : ℕ → Bool
ends_word b = is_blank b || is_comment_sign b

-- nothing of a word stands at the front
abbrev pub is_behind_word : List ℕ → Bool
is_behind_word [] = true
is_behind_word (b ∷ others) = ends_word b

-- more digits stand behind a 0
abbrev pub is_padded : List ℕ → Bool
is_padded (first ∷ second ∷ others) = first == 48
is_padded _ = false

-- the first of these words, and a line that has the others; nothing exactly where there is no word
abbrev pub TakesFirst : Option (Bor (List ℕ) × Bor (List ℕ)) → List (List ℕ) → Type 0
TakesFirst (Some x) words = words ≡ x.0.now ∷ words_of x.1.now
TakesFirst None words = words ≡ []

-- the number of the first of these words, and a line that has the others; or that there is no word, or that the first is no numeral
abbrev pub TakesNumber : Front → List (List ℕ) → Type 0
TakesNumber front.End words = numerals words ≡ Some []
TakesNumber (front.Number n rest) words = numerals words ≡ option_map (λ others. n ∷ others) (numerals (words_of rest.now))
TakesNumber front.Other words = numerals words ≡ None
