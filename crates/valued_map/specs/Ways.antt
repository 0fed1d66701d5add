-- The two ways through steps, back and forth: what the steps tell of the map at the end of a way.
use Rattle.std.specs.Prelude.{ℕ, ◌≡◌, ◌+◌, ◌-◌, ◌≤◌, ◌<◌, ◌⊎◌, ◌&&◌, nat_eq, cond, List, [], ◌∷◌, reverse, Option, Contains, slice_set}
use Rattle.map_defs.specs.Kind.{Kind}
use Rattle.map_defs.specs.LinkWords.{LinkWord}
use Rattle.map_defs.specs.Rows.{Rows}
use Rattle.map_defs.specs.Values.{Value, Rule}
use Rattle.map_defs.specs.Edits.{Change}
use Rattle.machine_defs.specs.State.{Content}
use Rattle.machine_defs.specs.Difference.{Difference, ValueChange, RuleChange}
use Rattle.journal_laws.specs.Following.{all_put_forward, all_taken_back}
use Rattle.valued_map.specs.Undoing.{AreStepsTo, AreStepsFrom, AreEditsTo, rows_before, IsNearChange, IsMapWord, IsRevalued}
use Rattle.valued_map.specs.declared.way.Way.{Way}
use Rattle.valued_map.specs.declared.way.Way.TheVariants.{Back, Forth}

-- the way that leads back again
abbrev pub other_way : Way → Way
other_way Back = Forth
other_way Forth = Back

-- steps, or the changes of one step, in the order of a way
abbrev pub in_turn : {X : Type 0} → Way → List X → List X
in_turn Back xs = reverse xs
in_turn Forth xs = xs

-- the place of the one that comes after so many others, of so many in all
abbrev pub place_at : Way → ℕ → ℕ → ℕ
place_at Back passed count = count - 1 - passed
place_at Forth passed count = passed

-- the value that a change puts at its dart
abbrev pub value_put : Way → ValueChange → Option Value
value_put Back c = c.old
value_put Forth c = c.new

-- the rule that a change puts in its dimension
abbrev pub rule_put : Way → RuleChange → Option Rule
rule_put Back c = c.old
rule_put Forth c = c.new

-- the rules with those that changes put, one after another
abbrev pub with_rules : Way → List RuleChange → List (Option Rule) → List (Option Rule)
with_rules way [] rules = rules
with_rules way (c ∷ cs) rules = with_rules way cs (slice_set rules c.dim (rule_put way c))

-- the rules at the end of a way through steps, which stand in its order
abbrev pub rules_along : Way → List Difference → List (Option Rule) → List (Option Rule)
rules_along way [] rules = rules
rules_along way (s ∷ ss) rules = rules_along way ss (with_rules way (in_turn way s.rules) rules)

-- the value that the last of these changes that is one of dart d in dimension i puts there; where there is none, this value
abbrev pub value_among : Way → List ValueChange → ℕ → ℕ → Option Value → Option Value
value_among way [] i d value = value
value_among way (c ∷ cs) i d value = value_among way cs i d (cond (nat_eq c.dim i && nat_eq c.dart d) (value_put way c) value)

-- the value of dart d in dimension i at the end of a way through steps, which stand in its order, by the value that it has now
abbrev pub value_along : Way → List Difference → ℕ → ℕ → Option Value → Option Value
value_along way [] i d value = value
value_along way (s ∷ ss) i d value = value_along way ss i d (value_among way s.values i d value)

-- the content at the end of a way through steps
abbrev pub all_along : Way → List Difference → Content → Content
all_along Back steps now = all_taken_back steps now
all_along Forth steps now = all_put_forward steps now

-- the steps led to the content now, where they are taken back, and lead on from it where they are put forward
abbrev pub AreStepsAlong : Way → Content → List Difference → Type 0
AreStepsAlong Back now steps = AreStepsTo now steps
AreStepsAlong Forth now steps = AreStepsFrom now steps

-- the later one of the contents at the two ends of a way
abbrev pub later_end : Way → List Difference → Content → Content
later_end Back steps now = now
later_end Forth steps now = all_put_forward steps now

-- the edits of steps lead from the rows to the others, or back to them, with so many places for live darts
abbrev pub AreEditsAlong : Way → Kind → ℕ → List Difference → Rows → Rows → ℕ → Type 0
AreEditsAlong Back k n steps rows others places = (others ≡ rows_before n steps rows) × AreEditsTo k n rows steps places
AreEditsAlong Forth k n steps rows others places = (rows ≡ rows_before n steps others) × AreEditsTo k n others steps places

-- a dart that a step brings to life: one that it ended, where it is taken back, and one that it bore, where it is put forward
abbrev pub IsRaised : Way → Difference → ℕ → Type 0
IsRaised Back s x = Contains s.edit.deaths x
IsRaised Forth s x = (s.first ≤ x) × (x < s.first + s.edit.births)

-- the darts that a step brings to life, and those near its changes
abbrev pub IsNearOne : Way → (LinkWord → Type 0) → Rows → Difference → ℕ → Type 0
IsNearOne way Words rows s x = IsRaised way s x ⊎ ((c : Change) × Contains s.edit.changes c × IsNearChange Words rows c x)

abbrev pub IsNearStep : Way → (LinkWord → Type 0) → Rows → List Difference → ℕ → Type 0
IsNearStep way Words rows steps x = (s : Difference) × Contains steps s × IsNearOne way Words rows s x

-- a dart that some step may have moved to another i-cell, or whose value in dimension i some step changed
abbrev pub IsStepped : Way → Kind → ℕ → Rows → List Difference → ℕ → ℕ → Type 0
IsStepped way k n rows steps i d = IsNearStep way (IsMapWord k n i) rows steps d ⊎ IsRevalued steps i d
