-- What the type of a map keeps.
use Rattle.std.specs.Prelude.{ℕ, ◌≡◌, ◌+◌, ◌≤◌, ◌<◌, ◌⊎◌, List, [], length, Option, None, IsSome}
use Rattle.map_defs.specs.Kind.{Kind}
use Rattle.map_defs.specs.Laws.{Laws}
use Rattle.map_defs.specs.Rows.{Rows, IsLive, IsSound, links_of, made}
use Rattle.map_defs.specs.Values.{Rule}
use Rattle.store_defs.specs.Stores.{Store}
use Rattle.store_defs.specs.Labelings.{Labeling, id_of, HasPlaces}
use Rattle.store_defs.specs.Groups.{rule_at}
use Rattle.label_laws.specs.Stored.{AreStored}

pub record IsStoredMap (k : Kind) (n : ℕ) (rows : Rows) (labels : Labeling) (pool : Store) (rules : List (Option Rule)) : Type 0 where
  pub flat : 2 ≤ n
  pub high : n ≤ 8
  pub begun : 0 < length rows
  pub sound : IsSound k n rows
  pub laws : Laws k (links_of rows)
  pub stored : AreStored k (links_of rows) (IsLive rows) labels pool
  -- a place for the rule of each dimension, once one has a rule
  pub ruled : (rules ≡ []) ⊎ (length rules ≡ n + 1)
  -- a dimension without a rule has no ids, and one with a rule has places for them
  pub bare : (i d : ℕ) → rule_at rules i ≡ None → id_of labels i d ≡ None
  pub placed : (i : ℕ) → IsSome (rule_at rules i) → HasPlaces labels i
  pub long : made rows ≤ labels.made
