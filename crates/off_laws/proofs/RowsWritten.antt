-- Lines that are written one after the other are the rows that are read.
use Rattle.std.proofs.Common.{◌≡◌, ℕ, zero, suc, ◌+◌, true, All, List, [], ◌∷◌, ◌++◌, length, Some, Result, refl, ap, ◌∙◌, append_assoc}
use Rattle.std.specs.Prelude.{slice_get}
use Rattle.std.specs.List.{list_all, flat_map, onto_first}
use Rattle.std.proofs.lemmas.Bool.{and_parts}
use Rattle.std.proofs.lemmas.List.Elements.{All-head, All-tail}
use Rattle.std.proofs.lemmas.Option.{same_Some}
use Rattle.map_defs.specs.Off.{What, Row, lines_of, rows_from}
use Rattle.machine_defs.specs.TextLines.{ended}
use Rattle.reading_laws.specs.MeshTexts.{read_at}
use Rattle.off_laws.proofs.LinesWritten.{Words, ArePlain, line_text, is_inner, inner-feed, line-inner, line-words, words-text}

-- a line that ends is cut off
cut-line : (line text : List ℕ) → list_all is_inner line ≡ true → lines_of (line ++ 10 ∷ text) ≡ line ∷ lines_of text
cut-line [] text inner = refl
cut-line (b ∷ line) text inner =
    let p = and_parts (is_inner b) (list_all is_inner line) inner in
    let feed = inner-feed b p.0 in
    rw feed (ap (onto_first b) (cut-line line text p.1))

-- the text of lines, each of which ends
abbrev pub lines_text : List Words → List ℕ
lines_text lines = flat_map (λ (words : Words). ended (line_text words)) lines

-- the lines as rows, of which the first has this number
abbrev pub rows_written : ℕ → List Words → List Row
rows_written line [] = []
rows_written line (words ∷ lines) = record { line = line; first = words.first; others = words.others } ∷ rows_written (line + 1) lines

-- they are the rows that are read of the text
pub rows-read : (line : ℕ) (lines : List Words) → All ArePlain lines → rows_from line (lines_of (lines_text lines)) ≡ rows_written line lines
rows-read line [] plain = refl
rows-read line (words ∷ lines) plain =
    let here = All-head ArePlain words lines plain in
    let cut : lines_of (ended (line_text words) ++ lines_text lines) ≡ line_text words ∷ lines_of (lines_text lines) =
    ap lines_of (append_assoc (line_text words) (10 ∷ []) (lines_text lines)) ∙ cut-line (line_text words) (lines_text lines) (line-inner words here) in
    let read = line-words words here in
    rw (cut, read) (ap (λ (rows : List Row). record { line = line; first = words.first; others = words.others } ∷ rows) (rows-read (line + 1) lines (All-tail ArePlain words lines plain)))

pub length-rows : (line : ℕ) (lines : List Words) → length (rows_written line lines) ≡ length lines
length-rows line [] = refl
length-rows line (words ∷ lines) = ap suc (length-rows (line + 1) lines)

-- the words of the line at a place are read there
pub row-read : {A : Type 0} (missing : What) (read : List ℕ → List (List ℕ) → Result A What) (line : ℕ) (lines : List Words) (p : ℕ) (words : Words) → All ArePlain lines
    → slice_get lines p ≡ Some words → read_at missing read (rows_written line lines) p ≡ read words.first words.others
row-read missing read line [] p words plain is = absurd (cc (is))
row-read missing read line (first ∷ lines) zero words plain is =
    let text = words-text first (All-head ArePlain first lines plain) in
    rw text (ap (λ (w : Words). read w.first w.others) (same_Some first words is))
row-read missing read line (first ∷ lines) (suc p) words plain is = row-read missing read (line + 1) lines p words (All-tail ArePlain first lines plain) is
