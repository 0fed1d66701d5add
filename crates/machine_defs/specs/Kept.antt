-- What the plain map machine keeps in every state: each content is a lawful map with values on its cells. Source: this
-- project's.
use Rattle.std.specs.Prelude.{ℕ, ◌≡◌, ◌≢◌, ◌≤◌, ◌+◌, List, [], ◌∷◌, ◌++◌, length, Some, None, All, slice_get}
use Rattle.std.specs.List.{AllPairs}
use Rattle.map_defs.specs.Laws.{IsLawful}
use Rattle.map_defs.specs.Rows.{IsLive, links_of, IsSound}
use Rattle.map_defs.specs.Values.{Rule, Hook}
use Rattle.map_defs.specs.RuleNames.{KnowsRule}
use Rattle.map_defs.specs.Carry.{AreEqualOnCells}
use Rattle.machine_defs.specs.State.{Content, Mark, State, value_at, rule_at, HasPlaces}

pub record IsLawfulContent (c : Content) : Type 0 where
  pub flat : 2 ≤ c.dim
  -- entries name live darts, and no more darts were made than may be
  pub sound : IsSound c.kind c.dim c.rows
  pub begun : 1 ≤ length c.rows
  -- the laws of a map
  pub lawful : IsLawful c.kind (links_of c.rows)
  -- a place for each value and each rule
  pub places : HasPlaces c
  pub ruled : length c.rules ≡ c.dim + 1
  -- the darts of a cell have one value, or none has one, and a dimension without a rule has no values
  pub equal : (i : ℕ) → AreEqualOnCells c.kind i (links_of c.rows) (IsLive c.rows) (value_at c i)
  pub none : (i d : ℕ) → rule_at c i ≡ None → value_at c i d ≡ None

-- no two marks have one name
abbrev pub AreNamedApart : List Mark → Type 0
AreNamedApart marks = AllPairs (λ m n. m.name ≢ n.name) marks

-- what the marks of a state keep of its past and its present content
pub record AreMarksKept (marks : List Mark) (past : List Content) (present : Content) : Type 0 where
  -- a mark is found by its name
  pub named : AreNamedApart marks
  -- a later mark was set at the same place or further on
  pub rising : AllPairs (λ m n. m.place ≤ n.place) marks
  -- no mark was set at a later content than the present one
  pub within : All (λ m. m.place ≤ length past) marks
  -- while no mark stands, nothing is kept
  pub nothing : marks ≡ [] → past ≡ []
  -- the copy of a mark is the content at its place
  pub copies : All (λ m. slice_get (past ++ present ∷ []) m.place ≡ Some m.content) marks

-- of the present content, of the past, of marks and of what was undone
pub record IsLawfulState (s : State) : Type 0 where
  pub present : IsLawfulContent s.present
  pub past : All IsLawfulContent s.past
  pub marks : All (λ m. IsLawfulContent m.content) s.marks
  pub marked : AreMarksKept s.marks s.past s.present
  pub undone : All (λ u. IsLawfulContent u.present × All IsLawfulContent u.past × All (λ m. IsLawfulContent m.content) u.marks × AreMarksKept u.marks u.past u.present) s.undone

-- each rule of the content is of the tables, or one that the hook knows
abbrev pub AreRulesKnown : Hook → Content → Type 0
AreRulesKnown hook c = (i : ℕ) (rule : Rule) → rule_at c i ≡ Some rule → KnowsRule hook rule

-- of the present content, of the past, of marks and of what was undone, beside a hook
pub record KnowsRules (hook : Hook) (s : State) : Type 0 where
  pub present : AreRulesKnown hook s.present
  pub past : All (AreRulesKnown hook) s.past
  pub marks : All (λ m. AreRulesKnown hook m.content) s.marks
  pub undone : All (λ u. AreRulesKnown hook u.present × All (AreRulesKnown hook) u.past × All (λ m. AreRulesKnown hook m.content) u.marks) s.undone
