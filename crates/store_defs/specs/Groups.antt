-- What `carry` answers: the new cells that hold a dart touched in their dimension, with their values. Source: this project's.
use Rattle.std.specs.Prelude.{ℕ, ◌≡◌, ◌<◌, ◌⊎◌, ◌↔◌, List, [], length, Option, Some, None, IsSome, slice_index, slice_index_or, Contains}
use Rattle.std.specs.List.Sorted.{IsStrictlyIncreasing}
use Rattle.map_defs.specs.Kind.{Kind}
use Rattle.map_defs.specs.Links.{Links}
use Rattle.map_defs.specs.Cells.{InCell}
use Rattle.map_defs.specs.Touched.{IsAlike}
use Rattle.map_defs.specs.Values.{Value, Rule, Hook, meaning_of}
use Rattle.map_defs.specs.Carry.{IsCarried, known}
use Rattle.store_defs.specs.Stores.{Store, value_of}

-- a new cell: its dimension, its darts and its value, if it has one
pub record Group : Type 0 where
  pub dim : ℕ
  pub darts : List ℕ
  pub value : Option Value

abbrev pub no_group : Group
no_group = record { dim = 0; darts = []; value = None }

abbrev pub group_at : List Group → ℕ → Group
group_at groups n = slice_index_or groups n no_group

-- the least dart of a group, which stands first
abbrev pub least_of : Group → ℕ
least_of g = slice_index g.darts 0

-- groups ascend by dimension, then by least dart
abbrev pub IsBefore : Group → Group → Type 0
IsBefore g h = (g.dim < h.dim) ⊎ ((g.dim ≡ h.dim) × (least_of g < least_of h))

-- the rule of dimension i, if it has one
abbrev pub rule_at : List (Option Rule) → ℕ → Option Rule
rule_at rules i = slice_index_or rules i None

-- the value that a label stands for
abbrev pub labelled_value : Store → Option ℕ → Option Value
labelled_value pool None = None
labelled_value pool (Some id) = value_of pool id

-- the value of the old cell of each dart, as its label tells it
abbrev pub known_value : Store → (ℕ → Option ℕ) → ℕ → Value
known_value pool label d = known (labelled_value pool (label d))

-- the darts that stand in the list of dimension i
abbrev pub darts_in : List (List ℕ) → ℕ → List ℕ
darts_in lists i = slice_index_or lists i []

-- The group is, as a set of darts, a cell of a dimension with a rule, and holds a dart that is touched in this dimension.
pub record IsTouchedCell (k : Kind) (L : Links) (rules : List (Option Rule)) (touched : ℕ → List ℕ) (g : Group) : Type 0 where
  pub ruled : IsSome (rule_at rules g.dim)
  pub ascending : IsStrictlyIncreasing g.darts
  pub whole : (d x : ℕ) → Contains g.darts d → Contains g.darts x ↔ InCell k L g.dim d x
  pub reached : (t : ℕ) × Contains (touched g.dim) t × Contains g.darts t

-- The groups are just these cells, each once, and they ascend.
pub record AreTouchedCells (k : Kind) (L : Links) (rules : List (Option Rule)) (touched : ℕ → List ℕ) (groups : List Group) : Type 0 where
  pub cells : (n : ℕ) → n < length groups → IsTouchedCell k L rules touched (group_at groups n)
  pub all : (i t : ℕ) → IsSome (rule_at rules i) → Contains (touched i) t → (n : ℕ) × (n < length groups) × ((group_at groups n).dim ≡ i) × Contains (group_at groups n).darts t
  pub ascending : (m n : ℕ) → m < n → n < length groups → IsBefore (group_at groups m) (group_at groups n)

-- The group has the value that is carried to its cell: the old valued cells are the sets of live darts with one label, and
-- labels are by dimension and dart.
abbrev pub HasCarriedValue : Kind → Links → (ℕ → Type 0) → (ℕ → ℕ → Option ℕ) → Store → Hook → List (Option Rule) → Group → Type 0
HasCarriedValue k L Live label pool hook rules g =
    (rule : Rule) (d : ℕ) → rule_at rules g.dim ≡ Some rule → Contains g.darts d
    → IsCarried (meaning_of hook rule) (known_value pool (label g.dim)) Live (IsAlike (label g.dim)) (InCell k L g.dim) d g.value
