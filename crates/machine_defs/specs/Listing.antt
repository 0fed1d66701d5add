-- The listing of a map: all that its content holds, and the names of its marks. Source: this project's.
use Rattle.std.specs.Prelude.{ℕ, ◌≡◌, ◌<◌, ◌+◌, ◌↔◌, ◌⊎◌, List, [], ◌∷◌, length, map, Option, Some, None, Contains, slice_index_or, pos, cond, nat_eq}
use Rattle.map_defs.specs.Kind.{Kind}
use Rattle.map_defs.specs.Rows.{Rows, links_of, made}
use Rattle.map_defs.specs.Cells.{NamesCell}
use Rattle.map_defs.specs.Values.{Value, Rule}
use Rattle.map_defs.specs.Totals.{plain_sum}
use Rattle.machine_defs.specs.State.{Content, Mark, value_at}

-- a live dart and its entries 0 to n
pub record ListRow : Type 0 where
  pub dart : ℕ
  pub links : List ℕ

-- a valued cell: its dimension, its least dart and its value
pub record ListValue : Type 0 where
  pub dim : ℕ
  pub dart : ℕ
  pub value : Value

-- a dimension with a rule, and its rule
pub record ListRule : Type 0 where
  pub dim : ℕ
  pub rule : Rule

-- A mark is listed by its name alone.
pub record Listing : Type 0 where
  pub kind : Kind
  pub dim : ℕ
  pub made : ℕ
  pub rows : List ListRow
  pub rules : List ListRule
  pub values : List ListValue
  pub marks : List (List ℕ)

-- the rows of the live darts, ascending, where the first place is that of dart d
abbrev pub live_rows_from : ℕ → Rows → List ListRow
live_rows_from d [] = []
live_rows_from d (None ∷ rows) = live_rows_from (d + 1) rows
live_rows_from d (Some row ∷ rows) = record { dart = d; links = row } ∷ live_rows_from (d + 1) rows

-- the rules of the dimensions that have one, ascending, where the first place is that of dimension i
abbrev pub rules_from : ℕ → List (Option Rule) → List ListRule
rules_from i [] = []
rules_from i (None ∷ rules) = rules_from (i + 1) rules
rules_from i (Some rule ∷ rules) = record { dim = i; rule = rule } ∷ rules_from (i + 1) rules

-- the names of marks, in their order
abbrev pub names_of : List Mark → List (List ℕ)
names_of marks = map (λ (mark : Mark). mark.name) marks

-- lower dimensions come first, and in one dimension lower darts
abbrev pub IsBefore : ListValue → ListValue → Type 0
IsBefore v w = (v.dim < w.dim) ⊎ ((v.dim ≡ w.dim) × (v.dart < w.dart))

-- the valued cells of a content, each named by its least dart, in order
pub record ListsValues (c : Content) (values : List ListValue) : Type 0 where
  pub members : (v : ListValue) → Contains values v ↔ ((value_at c v.dim v.dart ≡ Some v.value) × NamesCell c.kind (links_of c.rows) v.dim v.dart)
  pub ordered : (j k : ℕ) (d : ListValue) → j < k → k < length values → IsBefore (slice_index_or values j d) (slice_index_or values k d)

-- the valued cells of dimension i alone
pub record ListsValuesIn (c : Content) (i : ℕ) (values : List ListValue) : Type 0 where
  pub members : (v : ListValue) → Contains values v ↔ ((v.dim ≡ i) × (value_at c i v.dart ≡ Some v.value) × NamesCell c.kind (links_of c.rows) i v.dart)
  pub ordered : (j k : ℕ) (d : ListValue) → j < k → k < length values → IsBefore (slice_index_or values j d) (slice_index_or values k d)

-- the listing of a content whose valued cells are these, and of marks with these names
abbrev pub listing_with : Content → List ListValue → List (List ℕ) → Listing
listing_with c values names = record {
  kind = c.kind;
  dim = c.dim;
  made = made c.rows;
  rows = live_rows_from 0 c.rows;
  rules = rules_from 0 c.rules;
  values = values;
  marks = names;
}

-- the values of dimension i that a listing shows, added up
abbrev pub listed_total : ℕ → List ListValue → Value
listed_total i [] = record { a = pos 0; b = pos 0; c = pos 0 }
listed_total i (v ∷ values) = cond (nat_eq v.dim i) (plain_sum v.value (listed_total i values)) (listed_total i values)
