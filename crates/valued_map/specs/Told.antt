-- What a change of a map with values is told as, and how its parts are found.
use Rattle.std.specs.Prelude.{ℕ, ◌≡◌, ◌≢◌, ◌+◌, ◌-◌, ◌<◌, ◌≤◌, ◌⊎◌, ◌↔◌, ◌==◌, if◌then◌else◌, List, [], ◌∷◌, ◌++◌, length, Bool, true, false, Option, Some, None, Contains, AllPairs}
use Rattle.std.specs.List.Sorted.{IsStrictlyIncreasing}
use Rattle.map_defs.specs.Values.{Value, Rule}
use Rattle.map_defs.specs.Edits.{Change, Edit}
use Rattle.machine_defs.specs.State.{Content}
use Rattle.machine_defs.specs.Difference.{Difference, ValueChange, RuleChange, IsDifference, IsLinkBefore, IsValueBefore, IsRuleBefore}
use Rattle.machine_defs.specs.Kept.{IsLawfulContent}
use Rattle.journal_laws.specs.Following.{Follows}
use Rattle.store_defs.specs.Stores.{Store}
use Rattle.store_defs.specs.Labelings.{Labeling, id_of}
use Rattle.store_defs.specs.Groups.{Group, rule_at}
use Rattle.label_laws.specs.Stored.{stored_value}
use Rattle.label_laws.specs.Changing.{IsGroupedBelow}

-- A change is told where it was asked for, as the difference of the contents before and after it.
abbrev pub IsTold : Bool → Content → Content → Option Difference → Type 0
IsTold false before after None = Unit {0}
IsTold false before after (Some step) = ⊥
IsTold true before after None = ⊥
IsTold true before after (Some step) = IsDifference before after step

-- The content after is a lawful one and follows the content before, and the step between them is told where it was asked for.
pub record IsStep (asked : Bool) (before after : Content) (step : Option Difference) : Type 0 where
  pub follows : Follows before after
  pub kept : IsLawfulContent after
  pub told : IsTold asked before after step

-- the number of the first of so many new darts, or 0 where none is born
abbrev pub first_number : ℕ → ℕ → ℕ
first_number made births = if births == 0 then 0 else made + 1

-- the step of an edit after so many darts were made, with the values and rules that differ
abbrev pub step_of : ℕ → Edit → List ValueChange → List RuleChange → Difference
step_of made edit values rules = record { first = first_number made edit.births; edit = edit; values = values; rules = rules }

-- An edit as a log has it: its deaths ascend, and those of its changes that change something stand in the order of a log.
pub record IsSorted (edit sorted : Edit) : Type 0 where
  pub births : sorted.births ≡ edit.births
  pub deaths : (d : ℕ) → Contains sorted.deaths d ↔ Contains edit.deaths d
  pub ended_ascending : IsStrictlyIncreasing sorted.deaths
  pub changes : (c : Change) → Contains sorted.changes c ↔ (Contains edit.changes c × (c.old ≢ c.new))
  pub links_ordered : AllPairs IsLinkBefore sorted.changes

-- The step of an edit is begun, where it was asked for: its edit is as a log has it, and its values and rules are still to come.
abbrev pub IsBegun : Bool → ℕ → Edit → Option Difference → Type 0
IsBegun false made edit None = Unit {0}
IsBegun false made edit (Some step) = ⊥
IsBegun true made edit None = ⊥
IsBegun true made edit (Some step) = (sorted : Edit) × IsSorted edit sorted × (step ≡ step_of made sorted [] [])

-- the step with the values and rules that differ
abbrev pub finished : Option Difference → List ValueChange → List RuleChange → Option Difference
finished None values rules = None
finished (Some step) values rules = Some (record { first = step.first; edit = step.edit; values = values; rules = rules })

-- the places whose ids a change of links gives anew: those of darts that ended, and those of the darts of groups
abbrev pub IsRelabelledPlace : ℕ → List ℕ → List Group → ℕ → ℕ → Type 0
IsRelabelledPlace n ended groups i d = ((i < n + 1) × Contains ended d) ⊎ IsGroupedBelow (length groups) groups i d

-- the places whose values an edit may change: those whose ids are given anew, and those of the darts that it bore
abbrev pub IsRevaluedPlace : ℕ → ℕ → Edit → List Group → ℕ → ℕ → Type 0
IsRevaluedPlace n older e groups i d = IsRelabelledPlace n e.deaths groups i d ⊎ ((i < n + 1) × (older < d) × (d < older + e.births + 1))

-- the dart had the id that it has before others came in, or it is one of those, which are beyond the number `older`, and had none
abbrev pub IsBefore : ℕ → Labeling → Labeling → ℕ → ℕ → Type 0
IsBefore older before labels i d = (d ≤ older → id_of labels i d ≡ id_of before i d) × (older < d → id_of before i d ≡ None)

-- The values that the darts of these places have, in the order of a log, each once.
pub record AreOldValues (Place : ℕ → ℕ → Type 0) (labels : Labeling) (pool : Store) (values : List ValueChange) : Type 0 where
  pub placed : (c : ValueChange) → Contains values c → Place c.dim c.dart × (c.old ≡ stored_value pool labels c.dim c.dart)
  pub all : (i d : ℕ) → Place i d → (c : ValueChange) × Contains values c × (c.dim ≡ i) × (c.dart ≡ d)
  pub ordered : AllPairs IsValueBefore values

-- Those of these places whose values are others now, with the old ones and the new, in the same order.
pub record AreNewValues (labels : Labeling) (pool : Store) (olds values : List ValueChange) : Type 0 where
  pub members : (c : ValueChange) → Contains values c
      ↔ ((o : ValueChange) × Contains olds o × (c.dim ≡ o.dim) × (c.dart ≡ o.dart) × (c.old ≡ o.old) × (c.new ≡ stored_value pool labels c.dim c.dart) × (c.old ≢ c.new))
  pub ordered : AllPairs IsValueBefore olds → AllPairs IsValueBefore values

-- The rules of the first dimensions, below m, that differ between two rows of rules.
pub record AreRuleChanges (m : ℕ) (old new : List (Option Rule)) (changes : List RuleChange) : Type 0 where
  pub members : (c : RuleChange) → Contains changes c ↔ ((c.dim < m) × (c.old ≡ rule_at old c.dim) × (c.new ≡ rule_at new c.dim) × (c.old ≢ c.new))
  pub ordered : AllPairs IsRuleBefore changes

-- The change of the rule of one dimension to this one, unless it has it.
pub record IsOneRule (rules : List (Option Rule)) (dim : ℕ) (rule : Rule) (changes : List RuleChange) : Type 0 where
  pub members : (c : RuleChange) → Contains changes c ↔ ((c.dim ≡ dim) × (c.old ≡ rule_at rules dim) × (c.new ≡ Some rule) × (c.old ≢ c.new))
  pub ordered : AllPairs IsRuleBefore changes

-- the value that a dart has in a dimension
abbrev pub old_value : Labeling → Store → ℕ → ℕ → ValueChange
old_value labels pool i d = record { dim = i; dart = d; old = stored_value pool labels i d; new = stored_value pool labels i d }

-- Those of these places whose values differ, with the one value and the other, in the order of a log.
pub record AreDiffering (Place : ℕ → ℕ → Type 0) (old new : ℕ → ℕ → Option Value) (values : List ValueChange) : Type 0 where
  pub members : (c : ValueChange) → Contains values c ↔ (Place c.dim c.dart × (c.old ≡ old c.dim c.dart) × (c.new ≡ new c.dim c.dart) × (c.old ≢ c.new))
  pub ordered : AllPairs IsValueBefore values

-- the value of a dart in the dual, whose cell had another dimension
abbrev pub turned_value : ℕ → Labeling → Store → ℕ → ℕ → Option Value
turned_value n labels pool i d = stored_value pool labels (n - i) d

-- a change comes behind, if it changes something
abbrev pub IsValueAdded : ValueChange → List ValueChange → List ValueChange → Type 0
IsValueAdded c old new = ((c.old ≡ c.new) × (new ≡ old)) ⊎ ((c.old ≢ c.new) × (new ≡ old ++ c ∷ []))

abbrev pub IsRuleAdded : RuleChange → List RuleChange → List RuleChange → Type 0
IsRuleAdded c old new = ((c.old ≡ c.new) × (new ≡ old)) ⊎ ((c.old ≢ c.new) × (new ≡ old ++ c ∷ []))

-- a dart of the first dimensions, below m, and of the numbers 1 to made
abbrev pub IsPlaceBelow : ℕ → ℕ → ℕ → ℕ → Type 0
IsPlaceBelow m made i d = (i < m) × (0 < d) × (d ≤ made)
