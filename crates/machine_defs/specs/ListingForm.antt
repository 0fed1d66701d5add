-- The text of a listing, read line by line: what its lines tell, or else the first fault of form or order. Source: this
-- project's format.
use Rattle.std.specs.Prelude.{ℕ, zero, suc, ◌+◌, ◌-◌, ◌==◌, nat_lt, ◌||◌, ◌&&◌, not, Bool, true, List, [], ◌∷◌, ◌++◌, length, drop, Option, Some, None, slice_get, Result, Ok, Err, codes, if◌then◌else◌}
use Rattle.std.specs.List.{list_any, starts_with}
use Rattle.std.specs.Str.{bytes_eq}
use Rattle.map_defs.specs.Off.{◌>>=◌}
use Rattle.machine_defs.specs.Script.{lines_of, name}
use Rattle.machine_defs.specs.Listing.{ListRow, ListRule, ListValue, Listing}
use Rattle.machine_defs.specs.ListingLines.{Header, words_between, header_of, row_of, rule_of, value_of}

-- What is wrong with a line: it has not the form of its place, or is missing; it is not behind the lines before it; a law
-- of maps fails at its dart; or its dimension or its dart has no place for it.
pub data ListingWhat : Type 0 where
  Form : ListingWhat
  Order : ListingWhat
  Laws : ListingWhat
  Values : ListingWhat

-- lines count from 1
pub record ListingFault : Type 0 where
  pub line : ℕ
  pub what : ListingWhat

abbrev pub bad : {A : Type 0} → ℕ → ListingWhat → Result A ListingFault
bad line what = Err (record { line = line; what = what })

-- a fault of a line has the line's number
abbrev pub on_line : {A : Type 0} → ℕ → Result A ListingWhat → Result A ListingFault
on_line line (Ok x) = Ok x
on_line line (Err what) = bad line what

-- What is left to read: how many lines stand before it, and the pieces between its line feeds. Each piece is a line but the
-- last, behind which no line feed stands.
pub record Unread : Type 0 where
  pub line : ℕ
  pub pieces : List (List ℕ)

abbrev pub unread : ℕ → List (List ℕ) → Unread
unread line pieces = record { line = line; pieces = pieces }

-- The next line, and what is left then. A line that is missing, or has no line feed, is a fault of form.
abbrev pub line_of : ℕ → List (List ℕ) → Result (List ℕ × Unread) ListingFault
line_of line [] = bad (line + 1) Form
line_of line (rest ∷ []) = bad (line + 1) Form
line_of line (text ∷ next ∷ others) = Ok (text, unread (line + 1) (next ∷ others))

abbrev pub next_line : Unread → Result (List ℕ × Unread) ListingFault
next_line left = line_of left.line left.pieces

-- a line without the form of its place
abbrev pub formed : {A : Type 0} → Option A → Result A ListingWhat
formed (Some x) = Ok x
formed None = Err Form

-- the last of those before, if there are any
abbrev pub last_of : {A : Type 0} → List A → Option A
last_of known = slice_get known (length known - 1)

-- x is above the last one, if there is one
abbrev pub rises : {A : Type 0} → (A → A → Bool) → Option A → A → Bool
rises below None x = true
rises below (Some last) x = below last x

-- x stands behind those before it, if it is in order
abbrev pub put : {A : Type 0} → Bool → List A → A → Result (List A) ListingWhat
put ordered known x = if ordered then Ok (known ++ x ∷ []) else Err Order

-- rows ascend by their darts
abbrev pub is_row_below : ListRow → ListRow → Bool
is_row_below a b = nat_lt a.dart b.dart

abbrev pub put_row : List ListRow → ListRow → Result (List ListRow) ListingWhat
put_row known row = put (rises is_row_below (last_of known) row) known row

-- rules ascend by their dimensions
abbrev pub is_rule_below : ListRule → ListRule → Bool
is_rule_below a b = nat_lt a.dim b.dim

abbrev pub put_rule : List ListRule → ListRule → Result (List ListRule) ListingWhat
put_rule known rule = put (rises is_rule_below (last_of known) rule) known rule

-- values ascend by their dimensions, and in one dimension by their darts
abbrev pub is_value_below : ListValue → ListValue → Bool
is_value_below v w = nat_lt v.dim w.dim || (v.dim == w.dim && nat_lt v.dart w.dart)

abbrev pub put_value : List ListValue → ListValue → Result (List ListValue) ListingWhat
put_value known v = put (rises is_value_below (last_of known) v) known v

-- no name stands twice
abbrev pub put_mark : List (List ℕ) → List ℕ → Result (List (List ℕ)) ListingWhat
put_mark known name = put (not (list_any (bytes_eq name) known)) known name

-- what a line tells is put behind what was told before
abbrev pub row_taken : ℕ → ℕ → List ListRow → List ℕ → Result (List ListRow) ListingWhat
row_taken n made known line = formed (row_of n made line) >>= put_row known

abbrev pub rule_taken : List ListRule → List ℕ → Result (List ListRule) ListingWhat
rule_taken known text = formed (rule_of (words_between text)) >>= put_rule known

abbrev pub value_taken : List ListValue → List ℕ → Result (List ListValue) ListingWhat
value_taken known text = formed (value_of (words_between text)) >>= put_value known

abbrev pub mark_taken : List (List ℕ) → List ℕ → Result (List (List ℕ)) ListingWhat
mark_taken known text = formed (name text) >>= put_mark known

-- what one reader makes of the next line, behind so many bytes
unfoldable pub taken : {A : Type 0} → (A → List ℕ → Result A ListingWhat) → ℕ → A → Unread → Result (A × Unread) ListingFault
taken take front known left = do
  line ← next_line left
  more ← on_line line.1.line (take known (drop front line.0))
  Ok (more, line.1)

-- so many rows
abbrev pub rows_read : ℕ → ℕ → ℕ → List ListRow → Unread → Result (List ListRow × Unread) ListingFault
rows_read n made zero known left = Ok (known, left)
rows_read n made (suc owed) known left = do
  more ← taken (row_taken n made) 0 known left
  rows_read n made owed more.0 more.1

-- all next lines that begin so
abbrev pub all_read : {A : Type 0} → List ℕ → (A → List ℕ → Result A ListingWhat) → A → ℕ → List (List ℕ) → Result (A × Unread) ListingFault
all_read front take known line [] = Ok (known, unread line [])
all_read front take known line (text ∷ others) =
    if starts_with ◌==◌ text front then (do
      more ← taken take (length front) known (unread line (text ∷ others))
      all_read front take more.0 (line + 1) others)
    else Ok (known, unread line (text ∷ others))

-- version 1 has no rules and no marks
abbrev pub rules_read : ℕ → Unread → Result (List ListRule × Unread) ListingFault
rules_read version left = if version == 1 then Ok ([], left) else all_read (codes "rule ") rule_taken [] left.line left.pieces

abbrev pub values_read : Unread → Result (List ListValue × Unread) ListingFault
values_read left = all_read (codes "val ") value_taken [] left.line left.pieces

abbrev pub marks_read : ℕ → Unread → Result (List (List ℕ) × Unread) ListingFault
marks_read version left = if version == 1 then Ok ([], left) else all_read (codes "mark ") mark_taken [] left.line left.pieces

-- nothing stands behind the last line
abbrev pub closed : ℕ → List (List ℕ) → Result (Unit {0}) ListingFault
closed line ([] ∷ []) = Ok tt
closed line _ = bad (line + 1) Form

-- the last line is `end`
unfoldable pub ended : Unread → Result (Unit {0}) ListingFault
ended left = do
  line ← next_line left
  if bytes_eq line.0 (codes "end") then closed line.1.line line.1.pieces else bad line.1.line Form

-- What the lines of a listing tell: the version of the format, and the map, whose laws and whose values are not yet looked
-- at. Its rules are those of the lines.
pub record Told : Type 0 where
  pub version : ℕ
  pub listing : Listing

abbrev pub listing_told : Header → List ListRow → List ListRule → List ListValue → List (List ℕ) → Told
listing_told header rows rules values marks = record {
  version = header.version;
  listing = record { kind = header.kind; dim = header.dim; made = header.made; rows = rows; rules = rules; values = values; marks = marks };
}

unfoldable pub header_read : Unread → Result (Header × Unread) ListingFault
header_read left = do
  line ← next_line left
  header ← on_line line.1.line (formed (header_of (words_between line.0)))
  Ok (header, line.1)

-- the header, rows, rules, values, marks, and `end`
unfoldable pub told_left : Unread → Result Told ListingFault
told_left left = do
  header ← header_read left
  rows ← rows_read header.0.dim header.0.made header.0.live [] header.1
  rules ← rules_read header.0.version rows.1
  values ← values_read rules.1
  marks ← marks_read header.0.version values.1
  done ← ended marks.1
  Ok (listing_told header.0 rows.0 rules.0 values.0 marks.0)

abbrev pub told : List ℕ → Result Told ListingFault
told text = told_left (unread 0 (lines_of text))
