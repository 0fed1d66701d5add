-- Ids that tell the cells of a map which have values, and these values.
use Rattle.std.specs.Prelude.{ℕ, ◌≡◌, List, Option, Some}
use Rattle.map_defs.specs.Kind.{Kind}
use Rattle.map_defs.specs.Links.{Links}
use Rattle.map_defs.specs.Cells.{InCell}
use Rattle.map_defs.specs.Values.{Value, Rule}
use Rattle.store_defs.specs.Stores.{Store, IsHeld, HasRepresentable}
use Rattle.store_defs.specs.Labelings.{Labeling, id_of}
use Rattle.store_defs.specs.Groups.{labelled_value, rule_at}

-- the value of the i-cell of dart d, by its id
abbrev pub stored_value : Store → Labeling → ℕ → ℕ → Option Value
stored_value pool labels i d = labelled_value pool (id_of labels i d)

-- where some dimension has a rule, the values that ids stand for are within 64 bits
abbrev pub AreSmall : List (Option Rule) → Store → Type 0
AreSmall rules pool = (i : ℕ) (rule : Rule) → rule_at rules i ≡ Some rule → HasRepresentable pool

-- Only live darts have ids, and these stand for values; the darts of one cell have the same id, or none; and the darts of
-- two cells never have the same.
pub record AreStored (k : Kind) (L : Links) (Live : ℕ → Type 0) (labels : Labeling) (pool : Store) : Type 0 where
  pub live : (i d c : ℕ) → id_of labels i d ≡ Some c → Live d
  pub held : (i d c : ℕ) → id_of labels i d ≡ Some c → IsHeld pool c
  pub whole : (i d e c : ℕ) → id_of labels i d ≡ Some c → InCell k L i d e → id_of labels i e ≡ Some c
  pub apart : (i d j e c : ℕ) → id_of labels i d ≡ Some c → id_of labels j e ≡ Some c → (j ≡ i) × InCell k L i d e
