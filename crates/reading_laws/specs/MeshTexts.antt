-- What mesh a text tells, and what is wrong with a text, told by places: what should stand on a line that has words follows
-- from its place among those lines and from the counts. What one line says is read as the definitions of the text read it.
-- Source: the ASCII OFF format, in this project's profile.
use Rattle.std.specs.Prelude.{ℕ, ◌≡◌, ◌+◌, ◌<◌, ◌≤◌, List, [], ◌∷◌, length, Option, Some, None, Result, Ok, Err, codes, slice_get, if◌then◌else◌}
use Rattle.std.specs.List.{list_all}
use Rattle.std.specs.Str.{bytes_eq}
use Rattle.map_defs.specs.TextWords.{is_text}
use Rattle.map_defs.specs.Values.{Value}
use Rattle.map_defs.specs.Off.{Mesh, What, NoHeader, Short, Extra, NotText, TextFault, Row, lines_of, rows_from, Counts, counts, point, face}

-- the rows of a text: its lines that have words, each with its number
abbrev pub rows_of : List ℕ → List Row
rows_of text = rows_from 1 (lines_of text)

-- What is read of the words of a row, which all must be text. Where there is no row, the text ends too early, and that is what
-- `missing` tells.
abbrev pub read_row : {A : Type 0} → What → (List ℕ → List (List ℕ) → Result A What) → Option Row → Result A What
read_row missing read None = Err missing
read_row missing read (Some row) = if list_all is_text (row.first ∷ row.others) then read row.first row.others else Err NotText

-- what is read at place p of the rows
abbrev pub read_at : {A : Type 0} → What → (List ℕ → List (List ℕ) → Result A What) → List Row → ℕ → Result A What
read_at missing read rows p = read_row missing read (slice_get rows p)

-- the words behind `OFF`, with which the first row begins
abbrev pub behind_off : List ℕ → List (List ℕ) → Result (List (List ℕ)) What
behind_off first others = if bytes_eq first (codes "OFF") then Ok others else Err NoHeader

-- what no reader reads: a row behind the last face
abbrev pub nothing : List ℕ → List (List ℕ) → Result ⊥ What
nothing first others = Err Extra

-- What is read as the counts, and at which place: behind `OFF` on the first row, or on the second where `OFF` stands alone.
-- Where the first row does not begin with `OFF`, they are not read, and the first row is wrong.
pub data AreCounts (rows : List Row) (p : ℕ) (read : Result Counts What) : Type 0 where
  no_header : (what : What) → p ≡ 0 → read_at NoHeader behind_off rows 0 ≡ Err what → read ≡ Err what → AreCounts rows p read
  beside : (first : List ℕ) (others : List (List ℕ)) → p ≡ 0 → read_at NoHeader behind_off rows 0 ≡ Ok (first ∷ others) → read ≡ counts first others
      → AreCounts rows p read
  below : p ≡ 1 → read_at NoHeader behind_off rows 0 ≡ Ok [] → read ≡ read_at Short counts rows 1 → AreCounts rows p read

-- A text tells this mesh: its counts are those of the mesh, behind their row each point has a row, in order, then each face,
-- and no row follows.
pub record IsMeshText (text : List ℕ) (mesh : Mesh) : Type 0 where
  pub place : ℕ
  pub counted : AreCounts (rows_of text) place (Ok (record { points = length mesh.points; faces = length mesh.faces }))
  pub points : (j : ℕ) (x : Value) → slice_get mesh.points j ≡ Some x → read_at Short point (rows_of text) (place + 1 + j) ≡ Ok x
  pub faces : (j : ℕ) (x : List ℕ) → slice_get mesh.faces j ≡ Some x
      → read_at Short (face (length mesh.points)) (rows_of text) (place + 1 + length mesh.points + j) ≡ Ok x
  pub ended : length (rows_of text) ≡ place + 1 + length mesh.points + length mesh.faces

-- What is wrong at place p. The counts stand at place n; the next c.points rows should be points, the c.faces rows behind
-- these should be faces, and then no row should stand.
pub data IsWrong (rows : List Row) (p : ℕ) (what : What) : Type 0 where
  of_counts : AreCounts rows p (Err what) → IsWrong rows p what
  of_point : (c : Counts) (n : ℕ) → AreCounts rows n (Ok c) → n < p → p ≤ n + c.points → read_at Short point rows p ≡ Err what → IsWrong rows p what
  of_face : (c : Counts) (n : ℕ) → AreCounts rows n (Ok c) → n + c.points < p → p ≤ n + c.points + c.faces
      → read_at Short (face c.points) rows p ≡ Err what → IsWrong rows p what
  of_more : (c : Counts) (n : ℕ) → AreCounts rows n (Ok c) → n + c.points + c.faces < p → p < length rows → read_at Short nothing rows p ≡ Err what
      → IsWrong rows p what

-- the number of a row's line; where there is no row, that of the line behind the text
abbrev pub line_of : ℕ → Option Row → ℕ
line_of last None = last + 1
line_of last (Some row) = row.line

-- A text has this fault: it is what is wrong at the first place where something is wrong.
pub record HasFault (text : List ℕ) (fault : TextFault) : Type 0 where
  pub place : ℕ
  pub wrong : IsWrong (rows_of text) place fault.what
  pub line : fault.line ≡ line_of (length (lines_of text)) (slice_get (rows_of text) place)
  pub first : (q : ℕ) (other : What) → q < place → IsWrong (rows_of text) q other → ⊥
