-- The words of a line of text, with which scripts and meshes are written. Source: this project's formats.
use Rattle.std.specs.Prelude.{ℕ, ◌+◌, ◌-◌, ◌*◌, ◌==◌, ◌||◌, not, Bool, List, length, fold, filter}
use Rattle.std.specs.List.{list_all, slice_split, before_first}
use Rattle.std.specs.Char.{is_ascii_graphic}

-- a number sign begins a comment that runs to the end of the line; what stands in it is not read
abbrev pub is_comment_sign : ℕ → Bool
is_comment_sign b = b == 35

abbrev pub uncommented : List ℕ → List ℕ
uncommented line = before_first is_comment_sign line

-- a space, a tab or a carriage return
abbrev pub is_blank : ℕ → Bool
is_blank b = (b == 32) || (b == 9) || (b == 13)

abbrev pub is_word : List ℕ → Bool
is_word piece = not (length piece == 0)

-- the words of a line: the pieces between blanks that are not empty, up to a comment
abbrev pub words_of : List ℕ → List (List ℕ)
words_of line = filter is_word (slice_split is_blank (uncommented line))

-- a word is text if all its bytes are printed characters of ASCII, 33 to 126
abbrev pub is_text : List ℕ → Bool
is_text word = list_all is_ascii_graphic word

-- the number that a word of digits writes
abbrev pub value_of : List ℕ → ℕ
value_of word = fold (λ value digit. 10 * value + (digit - 48)) 0 word
