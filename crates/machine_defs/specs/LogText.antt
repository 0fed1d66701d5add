-- The text of a log. Source: this project's log format.
use Rattle.std.specs.Prelude.{ℕ, ◌+◌, ◌==◌, if◌then◌else◌, List, [], ◌∷◌, ◌++◌, length, Option, Some, None, codes}
use Rattle.std.specs.Fmt.{signed_decimal}
use Rattle.std.specs.List.{flat_map}
use Rattle.map_defs.specs.Values.{Value, Rule}
use Rattle.map_defs.specs.RuleNames.{merge_name, split_name}
use Rattle.map_defs.specs.Edits.{Change}
use Rattle.machine_defs.specs.Difference.{ValueChange, RuleChange, Difference}
use Rattle.machine_defs.specs.TextLines.{ended, spaced}

-- a value is its three numbers between commas, and a hyphen is none
abbrev pub logged_value : Option Value → List ℕ
logged_value None = codes "-"
logged_value (Some v) = signed_decimal v.a ++ 44 ∷ signed_decimal v.b ++ 44 ∷ signed_decimal v.c

-- a rule is the names of its merge and its split with a slash between, and a hyphen is none
abbrev pub logged_rule : Option Rule → List ℕ
logged_rule None = codes "-"
logged_rule (Some rule) = merge_name rule.merge ++ 47 ∷ split_name rule.split

-- the first new dart and how many were born; nothing where none was
abbrev pub born_text : ℕ → ℕ → List ℕ
born_text first births = if births == 0 then [] else ended (codes "born" ++ spaced first ++ spaced births)

-- the darts that ended; nothing where none did
abbrev pub dead_text : List ℕ → List ℕ
dead_text [] = []
dead_text (dart ∷ darts) = ended (codes "dead" ++ flat_map spaced (dart ∷ darts))

-- a dart, a link, and the darts there before and after, 0 for a free link
abbrev pub link_change_text : Change → List ℕ
link_change_text c = ended (codes "link" ++ spaced c.dart ++ spaced c.link ++ spaced c.old ++ spaced c.new)

-- a dimension, a dart, and its values before and after
abbrev pub value_change_text : ValueChange → List ℕ
value_change_text c = ended (codes "val" ++ spaced c.dim ++ spaced c.dart ++ 32 ∷ logged_value c.old ++ 32 ∷ logged_value c.new)

-- a dimension, and its rules before and after
abbrev pub rule_change_text : RuleChange → List ℕ
rule_change_text c = ended (codes "rule" ++ spaced c.dim ++ 32 ∷ logged_rule c.old ++ 32 ∷ logged_rule c.new)

-- a step, with its number
abbrev pub step_text : ℕ → Difference → List ℕ
step_text n s =
    ended (codes "step" ++ spaced n) ++ born_text s.first s.edit.births ++ dead_text s.edit.deaths
    ++ flat_map link_change_text s.edit.changes ++ flat_map value_change_text s.values ++ flat_map rule_change_text s.rules

-- the steps, numbered on from n
abbrev pub steps_text : ℕ → List Difference → List ℕ
steps_text n [] = []
steps_text n (s ∷ steps) = step_text n s ++ steps_text (n + 1) steps

-- how many steps there are, the steps from 1, and `end`
abbrev pub log_text : List Difference → List ℕ
log_text steps = ended (codes "log" ++ spaced (length steps)) ++ steps_text 1 steps ++ ended (codes "end")
