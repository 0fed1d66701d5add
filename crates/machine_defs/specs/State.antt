-- The state of the plain map machine, with whole contents. Source: this project's.
use Rattle.std.specs.Prelude.{ℕ, ◌≡◌, ◌+◌, ◌<◌, length, List, [], ◌∷◌, ◌++◌, Option, Some, None, map, replicate, slice_index_or, slice_set}
use Rattle.map_defs.specs.Kind.{Kind}
use Rattle.map_defs.specs.Rows.{Rows, IsLive}
use Rattle.map_defs.specs.Values.{Value, Rule}

-- A map with its values and rules. Place d of `values` has the values that the cells of dart d have, one place for each
-- dimension from 0 to dim, and place i of `rules` the rule of dimension i.
pub record Content : Type 0 where
  pub kind : Kind
  pub dim : ℕ
  pub rows : Rows
  pub values : List (List (Option Value))
  pub rules : List (Option Rule)

-- A mark has a name, a whole copy of the content it was set at, and the length of the past at that moment.
pub record Mark : Type 0 where
  pub name : List ℕ
  pub content : Content
  pub place : ℕ

-- What an undo took back, for a redo to give again: the undo's name, and all that stood before it.
pub record Undone : Type 0 where
  pub name : List ℕ
  pub present : Content
  pub past : List Content
  pub marks : List Mark

-- The contents in `past` are those since the first mark, oldest first; the present content comes after them.
pub record State : Type 0 where
  pub present : Content
  pub past : List Content
  pub marks : List Mark
  pub undone : List Undone

-- no value in any dimension
abbrev pub no_values : ℕ → List (Option Value)
no_values n = replicate (n + 1) None

-- the value of the i-cell of dart d, if it has one
abbrev pub value_at : Content → ℕ → ℕ → Option Value
value_at c i d = slice_index_or (slice_index_or c.values d []) i None

-- the content without darts, values and rules
abbrev pub empty_content : Kind → ℕ → Content
empty_content k n = record { kind = k; dim = n; rows = None ∷ []; values = no_values n ∷ []; rules = replicate (n + 1) None }

-- the machine's first state
abbrev pub empty_state : Kind → ℕ → State
empty_state k n = record { present = empty_content k n; past = []; marks = []; undone = [] }

-- the rule of dimension i, if it has one
abbrev pub rule_at : Content → ℕ → Option Rule
rule_at c i = slice_index_or c.rules i None

-- The values have a place for each place of the rows, and in it one for each dimension; only live darts have values.
pub record HasPlaces (c : Content) : Type 0 where
  pub long : length c.values ≡ length c.rows
  pub wide : (d : ℕ) → d < length c.rows → length (slice_index_or c.values d []) ≡ c.dim + 1
  pub none : (i d : ℕ) → (IsLive c.rows d → ⊥) → value_at c i d ≡ None

-- the content with further darts, which have no values yet
abbrev pub with_born : Content → List (List ℕ) → Content
with_born c born = record c { rows = c.rows ++ map Some born; values = c.values ++ map (λ (row : List ℕ). no_values c.dim) born }

-- the content without a dart, whose number is not given again
abbrev pub without_dart : Content → ℕ → Content
without_dart c d = record c { rows = slice_set c.rows d None; values = slice_set c.values d (no_values c.dim) }

-- the past after a step from this content: while no mark stands, nothing is kept
abbrev pub kept_past : List Mark → List Content → Content → List Content
kept_past [] past present = []
kept_past (mark ∷ marks) past present = past ++ present ∷ []

-- the state after a line that makes this the present content
abbrev pub steps_to : State → Content → State
steps_to s next = record { present = next; past = kept_past s.marks s.past s.present; marks = s.marks; undone = [] }
