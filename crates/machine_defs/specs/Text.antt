-- What the machine answers, and the text of an answer. Source: this project's script and listing formats.
use Rattle.std.specs.Prelude.{ℕ, List, [], ◌∷◌, ◌++◌, length, Option, Some, None, Bool, true, false, codes, ◌==◌, if◌then◌else◌}
use Rattle.std.specs.Fmt.{decimal}
use Rattle.std.specs.List.{flat_map, list_any}
pub use Rattle.machine_defs.specs.TextLines.{ended, spaced, spaced_signed}
use Rattle.map_defs.specs.Kind.{letter}
use Rattle.map_defs.specs.Refusal.{Refusal, number, name}
use Rattle.map_defs.specs.Values.{Value}
use Rattle.map_defs.specs.RuleNames.{merge_name, split_name}
use Rattle.map_defs.specs.OffOfMap.{OffRows}
use Rattle.machine_defs.specs.Listing.{ListRow, ListRule, ListValue, Listing}
use Rattle.machine_defs.specs.Difference.{Difference}
use Rattle.machine_defs.specs.LogText.{log_text}
use Rattle.machine_defs.specs.OffText.{off_text}

-- One reply: a changing line's first new dart and how many were made, both 0 if none was; an answer to a question of yes
-- or no; the darts of a cell, ascending; the value of a cell, or none; the counts of the map; a listing; the steps of a
-- log, oldest first; the points and faces of the map; or a refusal.
pub data Reply : Type 0 where
  Done : ℕ → ℕ → Reply
  Truth : Bool → Reply
  Darts : List ℕ → Reply
  CellValue : Option Value → Reply
  Counts : List ℕ → Reply
  Shown : Listing → Reply
  Logged : List Difference → Reply
  Meshed : OffRows → Reply
  Refused : Refusal → Reply

abbrev pub is_refused : Reply → Bool
is_refused (Done first count) = false
is_refused (Truth answer) = false
is_refused (Darts darts) = false
is_refused (CellValue value) = false
is_refused (Counts counts) = false
is_refused (Shown listing) = false
is_refused (Logged steps) = false
is_refused (Meshed off) = false
is_refused (Refused r) = true

-- a listing's first line: its version, the kind's letter, the dimension, the darts made and the live ones
abbrev pub header_line : ℕ → ℕ → ℕ → ℕ → List ℕ
header_line letter dim made live = ended (codes "cellmap 2 " ++ letter ∷ [] ++ spaced dim ++ spaced made ++ spaced live)

abbrev pub header_text : Listing → List ℕ
header_text l = header_line (letter l.kind) l.dim l.made (length l.rows)

-- a row is its dart, a colon and its entries
abbrev pub row_text : ListRow → List ℕ
row_text row = ended (decimal row.dart ++ 58 ∷ [] ++ flat_map spaced row.links)

-- a valued cell is its dimension, its least dart and the three numbers of its value
abbrev pub value_text : ListValue → List ℕ
value_text v = ended (codes "val" ++ spaced v.dim ++ spaced v.dart ++ spaced_signed v.value.a ++ spaced_signed v.value.b ++ spaced_signed v.value.c)

-- a rule is its dimension and the names of its merge and its split
abbrev pub rule_text : ListRule → List ℕ
rule_text r = ended (codes "rule" ++ spaced r.dim ++ 32 ∷ merge_name r.rule.merge ++ 32 ∷ split_name r.rule.split)

-- a mark is its name
abbrev pub mark_text : List ℕ → List ℕ
mark_text name = ended (codes "mark " ++ name)

abbrev pub listing_text : Listing → List ℕ
listing_text l = header_text l ++ flat_map row_text l.rows ++ flat_map rule_text l.rules ++ flat_map value_text l.values ++ flat_map mark_text l.marks ++ ended (codes "end")

-- a changing line that made no darts says `ok` alone
abbrev pub done_text : ℕ → ℕ → List ℕ
done_text first count = if count == 0 then ended (codes "ok") else ended (codes "ok" ++ spaced first ++ spaced count)

abbrev pub truth_text : Bool → List ℕ
truth_text true = ended (codes "true")
truth_text false = ended (codes "false")

-- a word, and numbers behind it
abbrev pub numbers_text : List ℕ → List ℕ → List ℕ
numbers_text word numbers = ended (word ++ flat_map spaced numbers)

abbrev pub cell_value_text : Option Value → List ℕ
cell_value_text None = ended (codes "value none")
cell_value_text (Some v) = ended (codes "value" ++ spaced_signed v.a ++ spaced_signed v.b ++ spaced_signed v.c)

abbrev pub refusal_text : Refusal → List ℕ
refusal_text r = ended (codes "no" ++ spaced (number r) ++ 32 ∷ name r)

abbrev pub reply_text : Reply → List ℕ
reply_text (Done first count) = done_text first count
reply_text (Truth answer) = truth_text answer
reply_text (Darts darts) = numbers_text (codes "cell") darts
reply_text (CellValue value) = cell_value_text value
reply_text (Counts counts) = numbers_text (codes "count") counts
reply_text (Shown listing) = listing_text listing
reply_text (Logged steps) = log_text steps
reply_text (Meshed off) = off_text off
reply_text (Refused r) = refusal_text r

abbrev pub replies_text : List Reply → List ℕ
replies_text replies = flat_map reply_text replies

-- whether some line was refused
abbrev pub any_refused : List Reply → Bool
any_refused replies = list_any is_refused replies

-- 1 if some line was refused, else 0
abbrev pub run_status : Bool → ℕ
run_status true = 1
run_status false = 0
