-- The text of a mesh in the OFF format, and the faults of a text. Source: the ASCII OFF format, in this project's profile.
use Rattle.std.specs.Prelude.{ℕ, zero, suc, ℤ, pos, neg_ℤ, int_le, int_lt, ◌+◌, ◌^◌, ◌<◌, ◌≤◌, ◌==◌, nat_lt, nat_le, ◌&&◌, Bool, List, [], ◌∷◌, length, take, map, All, Option, Some, None, option_map, Result, Ok, Err, codes, if◌then◌else◌}
use Rattle.std.specs.List.{list_all, before_first, after_first, onto_first}
use Rattle.std.specs.Char.{is_ascii_digit}
use Rattle.std.specs.Str.{bytes_eq}
use Rattle.map_defs.specs.Values.{Value}
use Rattle.map_defs.specs.TextWords.{words_of, is_word, is_text, value_of}

-- Points, and faces. A face names its points by their places, from 0, in the order in which it goes round.
pub record Mesh : Type 0 where
  pub points : List Value
  pub faces : List (List ℕ)

-- what is wrong with a line
pub data What : Type 0 where
  NoHeader : What
  BadCounts : What
  Short : What
  NotInteger : What
  OutOfRange : What
  BadFace : What
  BadIndex : What
  Extra : What
  NotText : What

-- lines count from 1, blank ones and comments among them
pub record TextFault : Type 0 where
  pub line : ℕ
  pub what : What

abbrev pub bad : {A : Type 0} → ℕ → What → Result A TextFault
bad line what = Err (record { line = line; what = what })

-- what goes on from a value, unless a fault came first
infixl 10 ◌>>=◌
abbrev pub ◌>>=◌ : {A B E : Type 0} → Result A E → (A → Result B E) → Result B E
(Ok x) >>= f = f x
(Err e) >>= f = Err e

-- the lines of a text: each ends with a line feed, but for the last, which may end with the text
abbrev pub lines_of : List ℕ → List (List ℕ)
lines_of [] = []
lines_of (b ∷ text) = if b == 10 then [] ∷ lines_of text else onto_first b (lines_of text)

-- a line that has words: its number, its first word, and the words behind it; a number sign begins a comment
pub record Row : Type 0 where
  pub line : ℕ
  pub first : List ℕ
  pub others : List (List ℕ)

-- lines without a word are skipped
abbrev pub onto_rows : ℕ → List (List ℕ) → List Row → List Row
onto_rows line [] rows = rows
onto_rows line (first ∷ others) rows = record { line = line; first = first; others = others } ∷ rows

-- the rows of these lines, of which the first has this number
abbrev pub rows_from : ℕ → List (List ℕ) → List Row
rows_from line [] = []
rows_from line (text ∷ lines) = onto_rows line (words_of text) (rows_from (line + 1) lines)

-- what is left to read: the rows, and the number of the last line of the whole text
pub record Left : Type 0 where
  pub rows : List Row
  pub last : ℕ

-- the lines that are left behind so many others
abbrev pub left_of : ℕ → List (List ℕ) → Left
left_of before lines = record { rows = rows_from (before + 1) lines; last = before + length lines }

-- the row, if its words are text
abbrev pub checked : Row → Result Row TextFault
checked row = if list_all is_text (row.first ∷ row.others) then Ok row else bad row.line NotText

-- The next row, and what is left then. Where the text ends, something is missing on the line behind the last.
abbrev pub next_of : What → ℕ → List Row → Result (Row × Left) TextFault
next_of missing last [] = bad (last + 1) missing
next_of missing last (row ∷ rows) = do
  text ← checked row
  Ok (text, record { rows = rows; last = last })

abbrev pub next : What → Left → Result (Row × Left) TextFault
next missing left = next_of missing left.last left.rows

-- a fault of a line has the line's number
abbrev pub on_line : {A : Type 0} → ℕ → Result A What → Result A TextFault
on_line line (Ok x) = Ok x
on_line line (Err what) = bad line what

-- what this reader makes of the next row
unfoldable pub line_read : {A : Type 0} → (List ℕ → List (List ℕ) → Result A What) → Left → Result (A × Left) TextFault
line_read read left = do
  row ← next Short left
  x ← on_line row.0.line (read row.0.first row.0.others)
  Ok (x, row.1)

-- a natural number is one or more digits
abbrev pub is_natural : List ℕ → Bool
is_natural word = is_word word && list_all is_ascii_digit word

-- a natural number below n
abbrev pub is_below : ℕ → List ℕ → Bool
is_below n word = is_natural word && nat_lt (value_of word) n

-- three words stand on a line
abbrev pub three : List ℕ → List (List ℕ) → Result (List ℕ × List ℕ × List ℕ) What
three x [] = Err Short
three x (y ∷ []) = Err Short
three x (y ∷ z ∷ []) = Ok (x, y, z)
three x (y ∷ z ∷ w ∷ more) = Err Extra

-- how many points and faces follow
pub record Counts : Type 0 where
  pub points : ℕ
  pub faces : ℕ

-- three natural numbers below 2 ^ 32: of points, of faces, and of edges, which is not used
abbrev pub counts_of : Result (List ℕ × List ℕ × List ℕ) What → Result Counts What
counts_of (Ok x) =
    if is_below (2 ^ 32) x.0 && is_below (2 ^ 32) x.1 && is_below (2 ^ 32) x.2
    then Ok (record { points = value_of x.0; faces = value_of x.1 }) else Err BadCounts
counts_of (Err what) = Err BadCounts

abbrev pub counts : List ℕ → List (List ℕ) → Result Counts What
counts first others = counts_of (three first others)

-- the counts stand behind `OFF` on its line, or alone on the next line that has words
abbrev pub counts_behind : ℕ → List (List ℕ) → Left → Result (Counts × Left) TextFault
counts_behind line [] left = line_read counts left
counts_behind line (first ∷ others) left = do
  counted ← on_line line (counts first others)
  Ok (counted, left)

unfoldable pub header : Left → Result (Counts × Left) TextFault
header left = do
  row ← next NoHeader left
  if bytes_eq row.0.first (codes "OFF") then counts_behind row.0.line row.0.others row.1 else bad row.0.line NoHeader

abbrev pub is_point : ℕ → Bool
is_point b = b == 46

-- a natural number, behind which a decimal point and any number of zeros may stand
abbrev pub magnitude : List ℕ → Option ℕ
magnitude word =
    if is_natural (before_first is_point word) && list_all (λ b. b == 48) (after_first is_point word)
    then Some (value_of (before_first is_point word)) else None

-- a whole number, with a sign before it or none
abbrev pub whole : List ℕ → Option ℤ
whole [] = None
whole (first ∷ others) =
    if first == 45 then option_map (λ n. neg_ℤ (pos n)) (magnitude others)
    else (if first == 43 then option_map (λ n. pos n) (magnitude others) else option_map (λ n. pos n) (magnitude (first ∷ others)))

-- a number is held in 64 bits
abbrev pub is_held : ℤ → Bool
is_held z = int_le (neg_ℤ (pos (2 ^ 63))) z && int_lt z (pos (2 ^ 63))

abbrev pub held : Option ℤ → Result ℤ What
held None = Err NotInteger
held (Some z) = if is_held z then Ok z else Err OutOfRange

abbrev pub coordinate : List ℕ → Result ℤ What
coordinate word = held (whole word)

-- a point is three coordinates, which are read from left to right
unfoldable pub point : List ℕ → List (List ℕ) → Result Value What
point first others = do
  words ← three first others
  a ← coordinate words.0
  b ← coordinate words.1
  c ← coordinate words.2
  Ok (record { a = a; b = b; c = c })

-- k corners, each the number of a point; what stands behind them is a colour, which is not read
abbrev pub corners : ℕ → ℕ → List (List ℕ) → Result (List ℕ) What
corners points k words =
    if nat_lt (length words) k then Err Short
    else (if list_all (is_below points) (take k words) then Ok (map value_of (take k words)) else Err BadIndex)

-- a face has 3 to 65,536 corners
abbrev pub is_side_count : List ℕ → Bool
is_side_count word = is_below 65537 word && nat_le 3 (value_of word)

abbrev pub face : ℕ → List ℕ → List (List ℕ) → Result (List ℕ) What
face points first others = if is_side_count first then corners points (value_of first) others else Err BadFace

-- n things one after the other
abbrev pub many : {A : Type 0} → (Left → Result (A × Left) TextFault) → ℕ → Left → Result (List A × Left) TextFault
many one zero left = Ok ([], left)
many one (suc n) left = do
  x ← one left
  xs ← many one n x.1
  Ok (x.0 ∷ xs.0, xs.1)

-- no row follows the last face
abbrev pub ended : Mesh → List Row → Result Mesh TextFault
ended mesh [] = Ok mesh
ended mesh (row ∷ rows) = do
  text ← checked row
  bad text.line Extra

unfoldable pub mesh_left : Left → Result Mesh TextFault
mesh_left left = do
  counted ← header left
  points ← many (line_read point) counted.0.points counted.1
  faces ← many (line_read (face counted.0.points)) counted.0.faces points.1
  ended (record { points = points.0; faces = faces.0 }) faces.1.rows

-- the mesh that a text tells, or else the first fault in the order of the text
abbrev pub mesh_of : List ℕ → Result Mesh TextFault
mesh_of text = mesh_left (left_of 0 (lines_of text))

-- Each face has 3 to 65,536 corners, which are numbers of points, and 32 bits hold the number of a face.
pub record HasFaces (mesh : Mesh) : Type 0 where
  pub few : length mesh.faces < 2 ^ 32
  pub sides : All (λ corners. (3 ≤ length corners) × (length corners ≤ 65536)) mesh.faces
  pub points : All (λ corners. All (λ v. v < length mesh.points) corners) mesh.faces

-- a fault's name in replies
abbrev pub name : What → List ℕ
name NoHeader = codes "NoHeader"
name BadCounts = codes "BadCounts"
name Short = codes "Short"
name NotInteger = codes "NotInteger"
name OutOfRange = codes "OutOfRange"
name BadFace = codes "BadFace"
name BadIndex = codes "BadIndex"
name Extra = codes "Extra"
name NotText = codes "NotText"
