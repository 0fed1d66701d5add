-- The content that a map shows: the values of its cells are told by the ids of their darts.
use Rattle.std.specs.Prelude.{ℕ, ◌≡◌, ◌+◌, ◌≤◌, List, [], ◌∷◌, length, Option, None, map, replicate}
use Rattle.std.specs.List.{range_with_len}
use Rattle.map_defs.specs.Kind.{Kind}
use Rattle.map_defs.specs.Rows.{Rows}
use Rattle.map_defs.specs.Values.{Value, Rule, Hook}
use Rattle.machine_defs.specs.State.{Content, HasPlaces, rule_at}
use Rattle.machine_defs.specs.Relinking.{AreCarriedBy}
use Rattle.store_defs.specs.Stores.{Store}
use Rattle.store_defs.specs.Labelings.{Labeling}
use Rattle.label_laws.specs.Stored.{stored_value}

-- the values of so many places, in each one for each dimension from 0 to n
abbrev pub table : ℕ → ℕ → (ℕ → ℕ → Option Value) → List (List (Option Value))
table n places value = map (λ (d : ℕ). map (λ (i : ℕ). value i d) (range_with_len 0 (n + 1))) (range_with_len 0 places)

-- the rules of the dimensions 0 to n; where no places are made for rules, there is no rule
abbrev pub all_rules : ℕ → List (Option Rule) → List (Option Rule)
all_rules n [] = replicate (n + 1) None
all_rules n (rule ∷ rules) = rule ∷ rules

abbrev pub content_of : Kind → ℕ → Rows → Labeling → Store → List (Option Rule) → Content
content_of k n rows labels pool rules = record { kind = k; dim = n; rows = rows; values = table n (length rows) (stored_value pool labels); rules = all_rules n rules }

-- the content with these rows, and with the values that the rules carry to its cells
pub record IsCarriedOn (hook : Hook) (c : Content) (rows : Rows) (next : Content) : Type 0 where
  pub kind : next.kind ≡ c.kind
  pub dim : next.dim ≡ c.dim
  pub rows_are : next.rows ≡ rows
  pub rules : next.rules ≡ c.rules
  pub places : HasPlaces next
  pub values : (i : ℕ) → i ≤ c.dim → AreCarriedBy hook c next i (rule_at c i)
