-- The names of merges and splits: those of the two tables, and those that a hook knows. Source: this project's.
use Rattle.std.specs.Prelude.{ℕ, ◌≡◌, true, List, Option, Some, None, unwrap_or, All, codes, if◌then◌else◌}
use Rattle.std.specs.Option.{option_or, option_map}
use Rattle.std.specs.Str.{bytes_eq}
use Rattle.map_defs.specs.Names.{is_name}
use Rattle.map_defs.specs.Values.{Merge, First, Last, Sum, Min, Max, Mid, Split, Copied, Keep, Share, Host, Named, Rule, Hook, is_among, AreWhole}

-- how a merge is written
abbrev pub merge_name : Merge → List ℕ
merge_name First = codes "first"
merge_name Last = codes "last"
merge_name Sum = codes "sum"
merge_name Min = codes "min"
merge_name Max = codes "max"
merge_name Mid = codes "mid"
merge_name Host = codes "host"
merge_name (Named name) = name

-- how a split is written
abbrev pub split_name : Split → List ℕ
split_name Copied = codes "copy"
split_name Keep = codes "keep"
split_name Share = codes "share"
split_name Host = codes "host"
split_name (Named name) = name

-- the merge of the table that a word names, if it names one
abbrev pub table_merge : List ℕ → Option Merge
table_merge word =
    if bytes_eq word (codes "first") then Some First
    else (if bytes_eq word (codes "last") then Some Last
    else (if bytes_eq word (codes "sum") then Some Sum
    else (if bytes_eq word (codes "min") then Some Min
    else (if bytes_eq word (codes "max") then Some Max
    else (if bytes_eq word (codes "mid") then Some Mid
    else (if bytes_eq word (codes "host") then Some Host
    else None))))))

-- the split of the table that a word names, if it names one
abbrev pub table_split : List ℕ → Option Split
table_split word =
    if bytes_eq word (codes "copy") then Some Copied
    else (if bytes_eq word (codes "keep") then Some Keep
    else (if bytes_eq word (codes "share") then Some Share
    else (if bytes_eq word (codes "host") then Some Host
    else None)))

-- the word itself, if it is one of these names
abbrev pub known_name : List (List ℕ) → List ℕ → Option (List ℕ)
known_name names word = if is_among names word then Some word else None

-- the merge that a word names beside a hook that knows these names: that of the table, or else a named one, or none
abbrev pub named_merge : List (List ℕ) → List ℕ → Option Merge
named_merge names word = option_or (table_merge word) (option_map Named (known_name names word))

-- the split that a word names beside a hook that knows these names, likewise
abbrev pub named_split : List (List ℕ) → List ℕ → Option Split
named_split names word = option_or (table_split word) (option_map Named (known_name names word))

-- the merge that a word of a listing names, whatever hook knows it: that of the table, or else a named one
abbrev pub listed_merge : List ℕ → Merge
listed_merge word = unwrap_or (table_merge word) (Named word)

-- the split that a word of a listing names, likewise
abbrev pub listed_split : List ℕ → Split
listed_split word = unwrap_or (table_split word) (Named word)

-- a caller may give a rule this name: it is a name, and stands in neither table
pub record IsFreeName (word : List ℕ) : Type 0 where
  pub name : is_name word ≡ true
  pub merge : table_merge word ≡ None
  pub split : table_split word ≡ None

-- What is asked of a hook: it leaves whole what is not split, and the names that it knows are free.
pub record IsHook (hook : Hook) : Type 0 where
  pub whole : AreWhole hook
  pub free : All IsFreeName hook.names

-- the merge is of the table, or one that the hook knows
abbrev pub KnowsMerge : Hook → Merge → Type 0
KnowsMerge hook (Named name) = is_among hook.names name ≡ true
KnowsMerge hook merge = Unit {0}

-- the split is of the table, or one that the hook knows
abbrev pub KnowsSplit : Hook → Split → Type 0
KnowsSplit hook (Named name) = is_among hook.names name ≡ true
KnowsSplit hook split = Unit {0}

-- both parts of the rule are of the tables, or known to the hook
abbrev pub KnowsRule : Hook → Rule → Type 0
KnowsRule hook rule = KnowsMerge hook rule.merge × KnowsSplit hook rule.split
