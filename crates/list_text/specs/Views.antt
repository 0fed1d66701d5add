-- What is left of a text and of a line, as pieces and as words.
use Rattle.std.specs.Prelude.{ℕ, ◌≡◌, ◌==◌, ◌<◌, List, [], ◌∷◌, length, Option, Some, None, Vec}
use Rattle.std.specs.declared.alloc.Global.{Global}
use Rattle.std.specs.Option.{option_map}
use Rattle.std.specs.List.{slice_split, before_first, after_first}
use Rattle.std.specs.Borrow.{Bor}
use Rattle.machine_defs.specs.Script.{lines_of}
use Rattle.machine_defs.specs.ListingLines.{words_between}
use Rattle.machine_defs.specs.ListingLines as lines
use Rattle.machine_defs.specs.ListingForm as text
use Rattle.list_text.specs.Letters.{kind_named}
use Rattle.list_text.specs.declared.cursor.Cursor.{Cursor}
use Rattle.list_text.specs.declared.words.Words.{Words}
use Rattle.list_text.specs.declared.form.Header.{Header}
use Rattle.list_text.specs.declared.told.Told.{Told}

-- what stands between such bytes, as far as it is left
abbrev pub parts_left : ℕ → Option (Bor (List ℕ)) → List (List ℕ)
parts_left byte None = []
parts_left byte (Some rest) = slice_split (λ b. b == byte) rest.now

-- a text that is cut at the first such byte, if it has one
abbrev pub IsCut : ℕ → List ℕ → Option (Bor (List ℕ) × Bor (List ℕ)) → Type 0
IsCut byte whole None = (slice_split (λ b. b == byte) whole ≡ whole ∷ []) × (after_first (λ b. b == byte) whole ≡ [])
IsCut byte whole (Some x) =
    (slice_split (λ b. b == byte) whole ≡ x.0.now ∷ slice_split (λ b. b == byte) x.1.now)
    × (x.0.now ≡ before_first (λ b. b == byte) whole) × (x.1.now ≡ after_first (λ b. b == byte) whole) × (length x.1.now < length whole)

abbrev pub words_left : Words → List (List ℕ)
words_left words = parts_left 32 words.rest

-- the first of the words that are left, and the others; none exactly where no word is left
abbrev pub TakesWord : Option (Bor (List ℕ) × Words) → List (List ℕ) → Type 0
TakesWord (Some x) words = words ≡ x.0.now ∷ words_left x.1
TakesWord None words = words ≡ []

-- the entry that the first word writes, and the words behind it
abbrev pub first_entry : ℕ → List (List ℕ) → Option (ℕ × List (List ℕ))
first_entry made [] = None
first_entry made (word ∷ words) = option_map (λ entry. (entry, words)) (lines.numeral_within 0 made word)

-- a list without where it lies in memory
abbrev pub items_of : Vec ℕ Global → List ℕ
items_of v = v.items

abbrev pub cursor_view : Cursor → text.Unread
cursor_view cursor = text.unread cursor.line (lines_of cursor.rest.now)

abbrev pub header_view : Header → lines.Header
header_view h = record { version = h.version; kind = kind_named h.letter; dim = h.dim; made = h.made; live = h.live }

abbrev pub told_view : Told → text.Told
told_view t = record {
  version = t.header.version;
  listing = record { kind = kind_named t.header.letter; dim = t.header.dim; made = t.header.made; rows = t.rows.items; rules = t.rules.items; values = t.values.items; marks = t.marks.items };
}
