-- Rows and cursors as the rows that are left.
use Rattle.std.specs.Prelude.{ℕ, ◌≡◌, ◌-◌, ◌<◌, ◌^◌, List, [], ◌∷◌, Result, Ok, Err}
use Rattle.std.specs.Borrow.{Bor}
use Rattle.map_defs.specs.Off as off
use Rattle.off_text.specs.declared.cursor.Row.{Row}
use Rattle.off_text.specs.declared.cursor.Cursor.{Cursor}
use Rattle.off_text.specs.declared.read.Counts.{Counts}
use Rattle.text_words.specs.Taking.{words_in}

abbrev pub row_view : Row → off.Row
row_view row = record { line = row.line; first = row.first.now; others = words_in row.others.now }

abbrev pub cursor_view : Cursor → off.Left
cursor_view cursor = off.left_of cursor.line (off.lines_of cursor.rest.now)

abbrev pub counts_view : Counts → off.Counts
counts_view counts = record { points = counts.points; faces = counts.faces }

abbrev pub words_view : Bor (List ℕ) × Bor (List ℕ) × Bor (List ℕ) → List ℕ × List ℕ × List ℕ
words_view words = (words.0.now, words.1.now, words.2.now)

-- the first of the rows that are left, and what is left behind it; or none, and the number of the last line
abbrev pub IsNext : Result (Row × Cursor) ℕ → off.Left → Type 0
IsNext (Ok x) left = left ≡ record { rows = row_view x.0 ∷ (cursor_view x.1).rows; last = (cursor_view x.1).last }
IsNext (Err last) left = (left ≡ record { rows = []; last = last }) × (last < 2 ^ 32 - 1)
