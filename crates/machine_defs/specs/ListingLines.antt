-- The lines of a listing, each by itself: what its words tell, if it has the form of its place. Source: this project's
-- format.
use Rattle.std.specs.Prelude.{ℕ, zero, suc, ◌+◌, ◌==◌, nat_le, ◌&&◌, Bool, List, [], ◌∷◌, length, Option, Some, None, codes, if◌then◌else◌}
use Rattle.std.specs.List.{slice_split, before_first, after_first}
use Rattle.std.specs.Str.{bytes_eq}
use Rattle.map_defs.specs.Kind.{Kind, alpha, beta}
use Rattle.map_defs.specs.Rows.{made_max}
use Rattle.map_defs.specs.RuleNames.{listed_merge, listed_split}
use Rattle.machine_defs.specs.Listing.{ListRow, ListRule, ListValue}
use Rattle.machine_defs.specs.Script.{◌>>=◌, numeral, name, value}

abbrev pub is_space : ℕ → Bool
is_space b = b == 32

abbrev pub is_colon : ℕ → Bool
is_colon b = b == 58

-- the words between the spaces: where two spaces stand side by side, an empty word stands between them
abbrev pub words_between : List ℕ → List (List ℕ)
words_between text = slice_split is_space text

-- the number of a numeral, if it is from low to high
abbrev pub numeral_within : ℕ → ℕ → List ℕ → Option ℕ
numeral_within low high word = do
  n ← numeral word
  if nat_le low n && nat_le n high then Some n else None

-- the kind that a letter names
abbrev pub kind_named : List ℕ → Option Kind
kind_named word = if bytes_eq word (codes "g") then Some alpha else (if bytes_eq word (codes "c") then Some beta else None)

-- A listing's first line: the version of its format, the map's kind and dimension, how many darts were made, and how many
-- are live, which is how many rows follow.
pub record Header : Type 0 where
  pub version : ℕ
  pub kind : Kind
  pub dim : ℕ
  pub made : ℕ
  pub live : ℕ

-- `cellmap`, and five words
abbrev pub header_of : List (List ℕ) → Option Header
header_of (first ∷ version ∷ kind ∷ dim ∷ made ∷ live ∷ []) =
    if bytes_eq first (codes "cellmap") then (do
      v ← numeral_within 1 2 version
      k ← kind_named kind
      n ← numeral_within 2 4 dim
      m ← numeral_within 0 made_max made
      l ← numeral_within 0 m live
      Some (record { version = v; kind = k; dim = n; made = m; live = l }))
    else None
header_of _ = None

-- so many entries, each 0 or the number of a dart that was made, and no more
abbrev pub entries : ℕ → ℕ → List (List ℕ) → Option (List ℕ)
entries made zero [] = Some []
entries made zero (word ∷ words) = None
entries made (suc count) [] = None
entries made (suc count) (word ∷ words) = do
  entry ← numeral_within 0 made word
  others ← entries made count words
  Some (entry ∷ others)

-- behind the colon each entry stands behind a space
abbrev pub entries_behind : ℕ → ℕ → List (List ℕ) → Option (List ℕ)
entries_behind made count [] = None
entries_behind made count (first ∷ words) = if length first == 0 then entries made count words else None

-- the row of a dart that was made: its number, a colon, and its entries 0 to n
abbrev pub row_of : ℕ → ℕ → List ℕ → Option ListRow
row_of n made line = do
  dart ← numeral_within 1 made (before_first is_colon line)
  links ← entries_behind made (n + 1) (words_between (after_first is_colon line))
  Some (record { dart = dart; links = links })

-- behind `rule`: a dimension, and the names of a merge and a split; one that is not in its table is that of a named rule
abbrev pub rule_of : List (List ℕ) → Option ListRule
rule_of (i ∷ merge ∷ split ∷ []) = do
  dim ← numeral i
  m ← name merge
  s ← name split
  Some (record { dim = dim; rule = record { merge = listed_merge m; split = listed_split s } })
rule_of _ = None

-- behind `val`: a dimension, a dart, and the three integers of a value
abbrev pub value_of : List (List ℕ) → Option ListValue
value_of (i ∷ d ∷ words) = do
  dim ← numeral i
  dart ← numeral d
  given ← value words
  Some (record { dim = dim; dart = dart; value = given })
value_of _ = None
