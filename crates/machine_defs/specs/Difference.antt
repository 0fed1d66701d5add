-- The difference of two contents, as a log shows it, and how it is put forward and taken back. Source: this project's.
use Rattle.std.specs.Prelude.{ℕ, ◌≡◌, ◌≢◌, ◌+◌, ◌-◌, ◌<◌, ◌⊎◌, ◌↔◌, ◌==◌, if◌then◌else◌, List, [], ◌∷◌, ◌++◌, length, take, replicate, Option, Contains, slice_index_or, slice_set}
use Rattle.std.specs.List.{AllPairs}
use Rattle.std.specs.List.Sorted.{IsStrictlyIncreasing}
use Rattle.map_defs.specs.Rows.{made, IsLive, links_of}
use Rattle.map_defs.specs.Values.{Value, Rule}
use Rattle.map_defs.specs.Edits.{Change, Edit, after_edit, before_edit}
use Rattle.machine_defs.specs.State.{Content, value_at, rule_at, no_values}

-- the value of one dart in one dimension, before and after
pub record ValueChange : Type 0 where
  pub dim : ℕ
  pub dart : ℕ
  pub old : Option Value
  pub new : Option Value

-- the rule of one dimension, before and after
pub record RuleChange : Type 0 where
  pub dim : ℕ
  pub old : Option Rule
  pub new : Option Rule

-- What one step changed: the number of its first new dart, or 0 where no dart was born; the edit of the links; and the
-- values and rules that differ.
pub record Difference : Type 0 where
  pub first : ℕ
  pub edit : Edit
  pub values : List ValueChange
  pub rules : List RuleChange

-- the order of changes in a log: of links by dart and then by link, of values by dimension and then by dart
abbrev pub IsLinkBefore : Change → Change → Type 0
IsLinkBefore b c = (b.dart < c.dart) ⊎ ((b.dart ≡ c.dart) × (b.link < c.link))

abbrev pub IsValueBefore : ValueChange → ValueChange → Type 0
IsValueBefore b c = (b.dim < c.dim) ⊎ ((b.dim ≡ c.dim) × (b.dart < c.dart))

abbrev pub IsRuleBefore : RuleChange → RuleChange → Type 0
IsRuleBefore b c = b.dim < c.dim

-- the number of the first of so many new darts, or 0 where none is born
abbrev pub first_born : Content → ℕ → ℕ
first_born c births = if births == 0 then 0 else made c.rows + 1

-- The difference of the content a from the content b that follows it. A dart that is not live has all links free and no
-- values.
pub record IsDifference (a b : Content) (s : Difference) : Type 0 where
  pub born : length b.rows ≡ length a.rows + s.edit.births
  pub first : s.first ≡ first_born a s.edit.births
  pub ended : (d : ℕ) → Contains s.edit.deaths d ↔ (IsLive a.rows d × (IsLive b.rows d → ⊥))
  pub ended_ascending : IsStrictlyIncreasing s.edit.deaths
  pub links : (c : Change) → Contains s.edit.changes c ↔ ((c.old ≡ links_of a.rows c.link c.dart) × (c.new ≡ links_of b.rows c.link c.dart) × (c.old ≢ c.new))
  pub links_ordered : AllPairs IsLinkBefore s.edit.changes
  pub values : (c : ValueChange) → Contains s.values c ↔ ((c.old ≡ value_at a c.dim c.dart) × (c.new ≡ value_at b c.dim c.dart) × (c.old ≢ c.new))
  pub values_ordered : AllPairs IsValueBefore s.values
  pub rules : (c : RuleChange) → Contains s.rules c ↔ ((c.old ≡ rule_at a c.dim) × (c.new ≡ rule_at b c.dim) × (c.old ≢ c.new))
  pub rules_ordered : AllPairs IsRuleBefore s.rules

-- the differences of neighbours, in their order
abbrev pub AreDifferences : List Content → List Difference → Type 0
AreDifferences [] steps = steps ≡ []
AreDifferences (a ∷ []) steps = steps ≡ []
AreDifferences (a ∷ b ∷ more) steps = (first : Difference) × (rest : List Difference) × (steps ≡ first ∷ rest)
    × IsDifference a b first × AreDifferences (b ∷ more) rest

-- the values of darts by dimension, with another one for a dart in a dimension
abbrev pub with_value : List (List (Option Value)) → ℕ → ℕ → Option Value → List (List (Option Value))
with_value values dim dart value = slice_set values dart (slice_set (slice_index_or values dart []) dim value)

-- the values with the new one of each change, and with the old one, the last change taken back first
abbrev pub valued : List ValueChange → List (List (Option Value)) → List (List (Option Value))
valued [] values = values
valued (c ∷ cs) values = valued cs (with_value values c.dim c.dart c.new)

abbrev pub unvalued : List ValueChange → List (List (Option Value)) → List (List (Option Value))
unvalued [] values = values
unvalued (c ∷ cs) values = with_value (unvalued cs values) c.dim c.dart c.old

-- the rules with the new one of each change, and with the old one, the last change taken back first
abbrev pub ruled : List RuleChange → List (Option Rule) → List (Option Rule)
ruled [] rules = rules
ruled (c ∷ cs) rules = ruled cs (slice_set rules c.dim c.new)

abbrev pub unruled : List RuleChange → List (Option Rule) → List (Option Rule)
unruled [] rules = rules
unruled (c ∷ cs) rules = slice_set (unruled cs rules) c.dim c.old

-- the content after a difference: it is put forward
abbrev pub put_forward : Difference → Content → Content
put_forward s c = record c {
  rows = after_edit c.dim s.edit c.rows;
  values = valued s.values (c.values ++ replicate s.edit.births (no_values c.dim));
  rules = ruled s.rules c.rules;
}

-- The content before a difference: it is taken back. Each old link, value and rule is put in its place, the darts that
-- ended live again, and those that were born are gone, their numbers too.
abbrev pub taken_back : Difference → Content → Content
taken_back s c = record c {
  rows = before_edit c.dim s.edit c.rows;
  values = take (length c.values - s.edit.births) (unvalued s.values c.values);
  rules = unruled s.rules c.rules;
}
