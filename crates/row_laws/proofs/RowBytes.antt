-- How many bytes the rows of a listing take.
use Rattle.std.proofs.Common.{◌≡◌, ℕ, zero, suc, ◌+◌, ◌-◌, ◌*◌, ◌≤◌, ◌<◌, ◌==◌, ◌&&◌, nat_le, Bool, true, false, cond, codes, List, [], ◌∷◌, length, take, drop, Option, Some, None, Result, Ok, refl, sym, ap, ◌∙◌, arith}
use Rattle.std.specs.List.{position_or_len, before_first, after_first, join_with_byte}
use Rattle.std.specs.Str.{bytes_eq}
use Rattle.std.proofs.lemmas.Bool.{leb-true}
use Rattle.std.proofs.lemmas.List.{length-append, length-drop}
use Rattle.std.proofs.lemmas.List.Splits.{join_with_byte-slice_split}
use Rattle.map_defs.specs.Kind.{Kind}
use Rattle.map_defs.specs.Rows.{made_max}
use Rattle.map_defs.specs.Off.{◌>>=◌}
use Rattle.machine_defs.specs.Script as script
use Rattle.machine_defs.specs.Script.{lines_of, numeral}
use Rattle.machine_defs.specs.Listing.{ListRow, ListRule, ListValue, Listing}
use Rattle.machine_defs.specs.ListingLines.{Header, is_colon, words_between, numeral_within, kind_named, header_of, entries, entries_behind, row_of}
use Rattle.machine_defs.specs.ListingForm.{ListingFault, Unread, unread, line_of, next_line, on_line, formed, put_row, taken, row_taken, rows_read, rules_read, values_read, marks_read, header_read, ended, Told, listing_told, told_left}
use Rattle.machine_defs.specs.ListingFaults.{Reads, unformed, unlawful, unruled, unvalued, read, listing_meant}
use Rattle.row_laws.proofs.RowsRead.{some, some_is, ok_is, went_on, went_on_some, formed-is, on_line-is, row_with}
use Rattle.row_laws.proofs.LinesRead.{row-adds, taken-counted}
use Rattle.row_laws.proofs.ToldParts.{header_with, told_live, told_made, told_dim, told_kind, given, after_marks, after_values, after_rules, after_rows, after_header}
use Rattle.row_laws.proofs.SpelledWords.{behind_spaces, join-first}

-- a numeral has a digit
has-digit : (word : List ℕ) (n : ℕ) → numeral word ≡ Some n → 0 < length word
has-digit [] n h = absurd cc
has-digit (digit ∷ word) n h = omega arith

-- a numeral within bounds has a digit, and is not below the low bound
within : (low high : ℕ) (word : List ℕ) (n : ℕ) → numeral_within low high word ≡ Some n → (0 < length word) × (low ≤ n)
within low high word n h =
    let read = went_on_some (numeral word) (λ m. cond (nat_le low m && nat_le m high) (some m) None) n h in
    (has-digit word read.0 read.1, at read.0 (nat_le low read.0) (nat_le read.0 high) refl read.2)
  where
    at : (m : ℕ) (a b : Bool) → nat_le low m ≡ a → cond (a && b) (some m) None ≡ Some n → low ≤ n
    at m true true e h = let same : m ≡ n = some_is m n h in let le = leb-true low m e in omega arith
    at m true false e h = absurd cc
    at m false b e h = absurd cc

-- each entry takes a space and a digit
entries-bytes : (made count : ℕ) (words : List (List ℕ)) (es : List ℕ) → entries made count words ≡ Some es → 2 * count ≤ length (behind_spaces words)
entries-bytes made zero words es h = omega arith
entries-bytes made (suc count) [] es h = absurd cc
entries-bytes made (suc count) (word ∷ words) es h =
    let first = went_on_some (numeral_within 0 made word) (λ e. script.◌>>=◌ (entries made count words) (λ others. some (e ∷ others))) es h in
    let more = went_on_some (entries made count words) (λ others. some (first.0 ∷ others)) es first.2 in
    let digit = (within 0 made word first.0 first.1).0 in
    let rest = entries-bytes made count words more.0 more.1 in
    let long = length-append word (behind_spaces words) in
    omega (arith, digit, rest, long)

behind-bytes : (made count : ℕ) (words : List (List ℕ)) (es : List ℕ) → entries_behind made count words ≡ Some es → 2 * count ≤ length (join_with_byte 32 words)
behind-bytes made count [] es h = absurd cc
behind-bytes made count (first ∷ words) es h = at (length first == 0) h
  where
    joined : length (join_with_byte 32 (first ∷ words)) ≡ length first + length (behind_spaces words)
    joined = ap length (join-first first words) ∙ length-append first (behind_spaces words)

    at : (b : Bool) → cond b (entries made count words) None ≡ Some es → 2 * count ≤ length (join_with_byte 32 (first ∷ words))
    at true h = let spaced = entries-bytes made count words es h in omega (arith, joined, spaced)
    at false h = absurd cc

-- where something is taken from the front, a number of bytes is asked for
asked : (count : ℕ) (text : List ℕ) → 0 < length (take count text) → 0 < count
asked zero text h = absurd (omega arith)
asked (suc count) text h = omega arith

-- a row's line has a digit, a colon, and at least three entries
row-bytes : (n made : ℕ) (line : List ℕ) (row : ListRow) → 2 ≤ n → row_of n made line ≡ Some row → 8 ≤ length line
row-bytes n made line row low h =
    let dart = went_on_some (numeral_within 1 made (before_first is_colon line)) (λ d. script.◌>>=◌ (entries_behind made (n + 1) (words_between (after_first is_colon line))) (λ links. some (row_with d links))) row h in
    let links = went_on_some (entries_behind made (n + 1) (words_between (after_first is_colon line))) (λ links. some (row_with dart.0 links)) row dart.2 in
    let front = asked (position_or_len is_colon line) line (within 1 made (before_first is_colon line) dart.0 dart.1).0 in
    let spaced = behind-bytes made (n + 1) (words_between (after_first is_colon line)) links.0 links.1 in
    let joined : length (join_with_byte 32 (words_between (after_first is_colon line))) ≡ length (after_first is_colon line) = ap length (join_with_byte-slice_split 32 (after_first is_colon line)) in
    let behind : length (after_first is_colon line) ≡ length line - (position_or_len is_colon line + 1) = length-drop (position_or_len is_colon line + 1) line in
    omega (arith, low, front, spaced, joined, behind)

-- how many bytes are left to read
abbrev bytes_left : Unread → ℕ
bytes_left left = length (join_with_byte 10 left.pieces)

-- a line takes its bytes and a line feed
line-bytes : (line : ℕ) (pieces : List (List ℕ)) (x : List ℕ × Unread) → line_of line pieces ≡ Ok x → length (join_with_byte 10 pieces) ≡ length x.0 + 1 + bytes_left x.1
line-bytes line [] x h = absurd cc
line-bytes line (rest ∷ []) x h = absurd cc
line-bytes line (text ∷ next ∷ others) x h =
    let same = sym (ok_is (text, unread (line + 1) (next ∷ others)) x h) in
    let first : length x.0 ≡ length text = ap (λ (p : List ℕ × Unread). length p.0) same in
    let rest : bytes_left x.1 ≡ length (join_with_byte 10 (next ∷ others)) = ap (λ (p : List ℕ × Unread). bytes_left p.1) same in
    let long = length-append text (10 ∷ join_with_byte 10 (next ∷ others)) in
    omega (arith, long)

abbrev pair : {A : Type 0} → A → Unread → Result (A × Unread) ListingFault
pair x left = Ok (x, left)

-- a row takes nine bytes
taken-bytes : (n made : ℕ) (known : List ListRow) (left : Unread) (x : List ListRow × Unread) → 2 ≤ n → taken (row_taken n made) 0 known left ≡ Ok x → 9 + bytes_left x.1 ≤ bytes_left left
unfolding taken
taken-bytes n made known left x low h =
    let line = went_on (next_line left) (λ line. on_line line.1.line (row_taken n made known (drop 0 line.0)) >>= λ more. pair more line.1) x h in
    let more = went_on (on_line line.0.1.line (row_taken n made known (drop 0 line.0.0))) (λ more. pair more line.0.1) x line.2 in
    let rows = on_line-is line.0.1.line (row_taken n made known (drop 0 line.0.0)) more.0 more.1 in
    let row = went_on (formed (row_of n made (drop 0 line.0.0))) (put_row known) more.0 rows in
    let short = row-bytes n made line.0.0 row.0 low (formed-is (row_of n made (drop 0 line.0.0)) row.0 row.1) in
    let long = line-bytes left.line left.pieces line.0 line.1 in
    let rest : bytes_left x.1 ≡ bytes_left line.0.1 = ap (λ (p : List ListRow × Unread). bytes_left p.1) (sym (ok_is (more.0, line.0.1) x more.2)) in
    omega (arith, short, long)

rows-bytes : (n made owed : ℕ) (known : List ListRow) (left : Unread) (x : List ListRow × Unread) → 2 ≤ n → rows_read n made owed known left ≡ Ok x
    → 9 * length x.0 + bytes_left x.1 ≤ 9 * length known + bytes_left left
rows-bytes n made zero known left x low h =
    let same = sym (ok_is (known, left) x h) in
    let items : length x.0 ≡ length known = ap (λ (p : List ListRow × Unread). length p.0) same in
    let rest : bytes_left x.1 ≡ bytes_left left = ap (λ (p : List ListRow × Unread). bytes_left p.1) same in
    omega arith
rows-bytes n made (suc owed) known left x low h =
    let more = went_on (taken (row_taken n made) 0 known left) (λ more. rows_read n made owed more.0 more.1) x h in
    let one = taken-bytes n made known left more.0 low more.1 in
    let count = (taken-counted (row_taken n made) 0 known left more.0 (row-adds n made) more.1).1 in
    let rest = rows-bytes n made owed more.0.0 more.0.1 x low more.2 in
    omega (arith, one, count, rest)

dim-of : (v : ℕ) (k : Kind) (n m l : ℕ) (h : Header) → some (header_with v k n m l) ≡ Some h → n ≡ h.dim
dim-of v k n m l h e = ap (λ (x : Header). x.dim) (some_is (header_with v k n m l) h e)

-- the dimension that a header tells is at least 2
dim-low : (words : List (List ℕ)) (h : Header) → header_of words ≡ Some h → 2 ≤ h.dim
dim-low [] h e = absurd cc
dim-low (a ∷ []) h e = absurd cc
dim-low (a ∷ b ∷ []) h e = absurd cc
dim-low (a ∷ b ∷ c ∷ []) h e = absurd cc
dim-low (a ∷ b ∷ c ∷ d ∷ []) h e = absurd cc
dim-low (a ∷ b ∷ c ∷ d ∷ f ∷ []) h e = absurd cc
dim-low (first ∷ version ∷ kind ∷ dim ∷ made ∷ live ∷ more ∷ others) h e = absurd cc
dim-low (first ∷ version ∷ kind ∷ dim ∷ made ∷ live ∷ []) h e = at (bytes_eq first (codes "cellmap")) e
  where
    at : (b : Bool) → cond b (script.◌>>=◌ (numeral_within 1 2 version) (told_kind kind dim made live)) None ≡ Some h → 2 ≤ h.dim
    at true e =
        let v = went_on_some (numeral_within 1 2 version) (told_kind kind dim made live) h e in
        let k = went_on_some (kind_named kind) (told_dim dim made live v.0) h v.2 in
        let n = went_on_some (numeral_within 2 4 dim) (told_made made live v.0 k.0) h k.2 in
        let m = went_on_some (numeral_within 0 made_max made) (told_live live v.0 k.0 n.0) h n.2 in
        let l = went_on_some (numeral_within 0 m.0 live) (λ l. some (header_with v.0 k.0 n.0 m.0 l)) h m.2 in
        let same = dim-of v.0 k.0 n.0 m.0 l.0 h l.2 in
        let low = (within 2 4 dim n.0 n.1).1 in
        omega (arith, same, low)
    at false e = absurd cc

header-bytes : (left : Unread) (x : Header × Unread) → header_read left ≡ Ok x → (2 ≤ x.0.dim) × (bytes_left x.1 ≤ bytes_left left)
unfolding header_read
header-bytes left x h =
    let line = went_on (next_line left) (λ line. on_line line.1.line (formed (header_of (words_between line.0))) >>= λ header. pair header line.1) x h in
    let header = went_on (on_line line.0.1.line (formed (header_of (words_between line.0.0)))) (λ header. pair header line.0.1) x line.2 in
    let same = ok_is (header.0, line.0.1) x header.2 in
    let told = formed-is (header_of (words_between line.0.0)) header.0 (on_line-is line.0.1.line (formed (header_of (words_between line.0.0))) header.0 header.1) in
    let low = dim-low (words_between line.0.0) header.0 told in
    let dim : header.0.dim ≡ x.0.dim = ap (λ (p : Header × Unread). p.0.dim) same in
    let rest : bytes_left line.0.1 ≡ bytes_left x.1 = ap (λ (p : Header × Unread). bytes_left p.1) same in
    let long = line-bytes left.line left.pieces line.0 line.1 in
    (omega (arith, low), omega (arith, long))

-- what is told has the rows that were read, and the header's dimension
pub listing-kept : (h : Header) (rows : List ListRow × Unread) (t : Told) → after_rows h rows ≡ Ok t → (t.listing.rows ≡ rows.0) × (t.listing.dim ≡ h.dim)
listing-kept h rows t e =
    let rules = went_on (rules_read h.version rows.1) (after_rules h rows.0) t e in
    let values = went_on (values_read rules.0.1) (after_values h rows.0 rules.0.0) t rules.2 in
    let marks = went_on (marks_read h.version values.0.1) (after_marks h rows.0 rules.0.0 values.0.0) t values.2 in
    let done = went_on (ended marks.0.1) (λ done. given (listing_told h rows.0 rules.0.0 values.0.0 marks.0.0)) t marks.2 in
    let same = sym (ok_is (listing_told h rows.0 rules.0.0 values.0.0 marks.0.0) t done.2) in
    (ap (λ (x : Told). x.listing.rows) same, ap (λ (x : Told). x.listing.dim) same)

told-bytes : (left : Unread) (t : Told) → told_left left ≡ Ok t → 9 * length t.listing.rows ≤ bytes_left left
unfolding told_left
told-bytes left t h =
    let header = went_on (header_read left) after_header t h in
    let rows = went_on (rows_read header.0.0.dim header.0.0.made header.0.0.live [] header.0.1) (after_rows header.0.0) t header.2 in
    let begins = header-bytes left header.0 header.1 in
    let short = rows-bytes header.0.0.dim header.0.0.made header.0.0.live [] header.0.1 rows.0 begins.0 rows.1 in
    let items : length t.listing.rows ≡ length rows.0.0 = ap length (listing-kept header.0.0 rows.0 t rows.2).0 in
    let behind = begins.1 in
    omega (arith, short, behind)

-- a text that is read has nine bytes for each row
pub rows-short : (bytes : List ℕ) (l : Listing) → Reads bytes (Ok l) → 9 * length l.rows ≤ length bytes
rows-short bytes l (unformed fault e is) = absurd cc
rows-short bytes l (unlawful t place e first is) = absurd cc
rows-short bytes l (unruled t place e all first is) = absurd cc
rows-short bytes l (unvalued t place e all rules first is) = absurd cc
rows-short bytes l (read t e all rules values is) =
    let short = told-bytes (unread 0 (lines_of bytes)) t e in
    let whole : length (join_with_byte 10 (lines_of bytes)) ≡ length bytes = ap length (join_with_byte-slice_split 10 bytes) in
    let same : length l.rows ≡ length t.listing.rows = ap (λ (m : Listing). length m.rows) (ok_is l (listing_meant t) is) in
    omega (arith, short)
