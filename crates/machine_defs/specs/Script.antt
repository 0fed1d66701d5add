-- The script: its lines, their words, and the grammar of a line. Source: this project's.
use Rattle.std.specs.Prelude.{ℕ, ℤ, pos, neg_ℤ, ◌^◌, ◌==◌, nat_lt, nat_le, ◌&&◌, not, Bool, false, List, [], ◌∷◌, length, Option, Some, None, option_map, option_and_then, codes, if◌then◌else◌}
use Rattle.std.specs.List.{list_all, slice_split}
use Rattle.std.specs.Char.{is_ascii_digit}
use Rattle.std.specs.Str.{bytes_eq}
use Rattle.map_defs.specs.TextWords.{is_text, value_of}
pub use Rattle.map_defs.specs.Names.{is_name_byte, is_name}
use Rattle.map_defs.specs.Values as values

-- what goes on from a value, if there is one
infixl 10 ◌>>=◌
abbrev pub ◌>>=◌ : {A B : Type 0} → Option A → (A → Option B) → Option B
o >>= f = option_and_then f o

-- the lines of a script: the pieces between line feeds; an empty line has no reply, so neither has an empty last piece
abbrev pub lines_of : List ℕ → List (List ℕ)
lines_of script = slice_split (λ b. b == 10) script

-- `0`, or at most 19 digits of which the first is not 0
abbrev pub is_numeral : List ℕ → Bool
is_numeral [] = false
is_numeral (first ∷ others) =
    list_all is_ascii_digit (first ∷ others) && (if first == 48 then length others == 0 else nat_le (length others) 18)

-- the number of a numeral
abbrev pub numeral : List ℕ → Option ℕ
numeral word = if is_numeral word then Some (value_of word) else None

-- the numbers of these words, if each is a numeral
abbrev pub numerals : List (List ℕ) → Option (List ℕ)
numerals [] = Some []
numerals (word ∷ words) = do
  n ← numeral word
  ns ← numerals words
  Some (n ∷ ns)

-- the integers of 64 bits: n as it is, and -n, where n is not 0
abbrev pub positive : ℕ → Option ℤ
positive n = if nat_lt n (2 ^ 63) then Some (pos n) else None

abbrev pub negative : ℕ → Option ℤ
negative n = if not (n == 0) && nat_le n (2 ^ 63) then Some (neg_ℤ (pos n)) else None

-- the integer of a word: a numeral, or `-` and a numeral that is not 0, within 64 bits
abbrev pub integer : List ℕ → Option ℤ
integer [] = None
integer (first ∷ others) =
    if first == 45 then numeral others >>= negative else numeral (first ∷ others) >>= positive

abbrev pub name : List ℕ → Option (List ℕ)
name word = if is_name word then Some word else None

-- a line that the machine can obey: one constructor for each first word, with the words after it
pub data Line : Type 0 where
  Polygon : ℕ → Line
  Dart : Line
  Del : ℕ → Line
  Sew : ℕ → ℕ → ℕ → Line
  Unsew : ℕ → ℕ → Line
  Vertex : ℕ → Line
  Edge : ℕ → ℕ → Line
  Face : List ℕ → Line
  Remove : ℕ → ℕ → Line
  Contract : ℕ → ℕ → Line
  Dual : Line
  Close : ℕ → Line
  Dangle : ℕ → Line
  Center : ℕ → Line
  Rule : ℕ → List ℕ → List ℕ → Line
  Set : ℕ → ℕ → values.Value → Line
  Clear : ℕ → ℕ → Line
  Mark : List ℕ → Line
  Undo : List ℕ → Line
  Redo : List ℕ → Line
  Log : List ℕ → Line
  Cell : ℕ → ℕ → Line
  Same : ℕ → ℕ → ℕ → Line
  Free : ℕ → ℕ → Line
  Value : ℕ → ℕ → Line
  Removable : ℕ → ℕ → Line
  Contractible : ℕ → ℕ → Line
  Sewable : ℕ → ℕ → ℕ → Line
  Off : Line
  Count : Line
  Show : Line

-- what a table has in the row of a word
abbrev pub found : {A : Type 0} → List ℕ → List (List ℕ × A) → Option A
found word [] = None
found word (row ∷ rows) = if bytes_eq word row.0 then Some row.1 else found word rows

-- The grammar. First words that stand alone, and those with one numeral, two or three behind them.
abbrev pub alone : List (List ℕ × Line)
alone = (codes "dart", Dart) ∷ (codes "dual", Dual) ∷ (codes "count", Count) ∷ (codes "show", Show) ∷ (codes "off", Off) ∷ []

abbrev pub with_one : List (List ℕ × (ℕ → Line))
with_one =
    (codes "polygon", Polygon) ∷ (codes "del", Del) ∷ (codes "vertex", Vertex) ∷ (codes "close", Close) ∷ (codes "dangle", Dangle)
    ∷ (codes "center", Center) ∷ []

abbrev pub with_two : List (List ℕ × (ℕ → ℕ → Line))
with_two =
    (codes "unsew", Unsew) ∷ (codes "remove", Remove) ∷ (codes "contract", Contract) ∷ (codes "clear", Clear)
    ∷ (codes "cell", Cell) ∷ (codes "free", Free) ∷ (codes "value", Value) ∷ (codes "removable", Removable)
    ∷ (codes "contractible", Contractible) ∷ (codes "edge", Edge) ∷ []

abbrev pub with_three : List (List ℕ × (ℕ → ℕ → ℕ → Line))
with_three = (codes "sew", Sew) ∷ (codes "sewable", Sewable) ∷ (codes "same", Same) ∷ []

-- the line of a first word and the numbers behind it
abbrev pub numbers_line : List ℕ → List ℕ → Option Line
numbers_line first [] = found first alone
numbers_line first (a ∷ []) = option_map (λ line. line a) (found first with_one)
numbers_line first (a ∷ b ∷ []) = option_map (λ line. line a b) (found first with_two)
numbers_line first (a ∷ b ∷ c ∷ []) = option_map (λ line. line a b c) (found first with_three)
numbers_line first (a ∷ b ∷ c ∷ d ∷ more) = None

-- `face` and 1 to 4096 numerals
abbrev pub face_line : List (List ℕ) → Option Line
face_line words = if nat_le 1 (length words) && nat_le (length words) 4096 then option_map Face (numerals words) else None

-- `rule`, a numeral and two names
abbrev pub rule_line : List (List ℕ) → Option Line
rule_line (i ∷ merge ∷ split ∷ []) = do
  dim ← numeral i
  merge_name ← name merge
  split_name ← name split
  Some (Rule dim merge_name split_name)
rule_line _ = None

-- a value of three integers
abbrev pub value : List (List ℕ) → Option values.Value
value (x ∷ y ∷ z ∷ []) = do
  a ← integer x
  b ← integer y
  c ← integer z
  Some (record { a = a; b = b; c = c })
value _ = None

-- `set`, two numerals and a value
abbrev pub set_line : List (List ℕ) → Option Line
set_line (i ∷ d ∷ words) = do
  dim ← numeral i
  dart ← numeral d
  given ← value words
  Some (Set dim dart given)
set_line _ = None

-- the name of these words, if they are one name
abbrev pub only_name : List (List ℕ) → Option (List ℕ)
only_name (word ∷ []) = name word
only_name _ = None

-- the line of a first word and the words behind it
abbrev pub line_with : List ℕ → List (List ℕ) → Option Line
line_with first words =
    if bytes_eq first (codes "face") then face_line words
    else (if bytes_eq first (codes "rule") then rule_line words
    else (if bytes_eq first (codes "set") then set_line words
    else (if bytes_eq first (codes "mark") then option_map Mark (only_name words)
    else (if bytes_eq first (codes "undo") then option_map Undo (only_name words)
    else (if bytes_eq first (codes "redo") then option_map Redo (only_name words)
    else (if bytes_eq first (codes "log") then option_map Log (only_name words)
    else (numerals words >>= numbers_line first)))))))

-- the line that words tell; other words are outside the grammar
abbrev pub line_of : List (List ℕ) → Option Line
line_of [] = None
line_of (first ∷ words) = if list_all is_text (first ∷ words) then line_with first words else None
