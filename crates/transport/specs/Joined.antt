-- Groups of several dimensions, one dimension after the other.
use Rattle.std.specs.Prelude.{ℕ, ◌≡◌, ◌<◌, List, length, Option, IsSome, Contains}
use Rattle.map_defs.specs.Kind.{Kind}
use Rattle.map_defs.specs.Links.{Links}
use Rattle.map_defs.specs.Values.{Rule, Hook}
use Rattle.store_defs.specs.Stores.{Store}
use Rattle.store_defs.specs.Groups.{Group, group_at, rule_at, IsBefore, IsTouchedCell, HasCarriedValue}

-- a touched cell with the value that is carried to it
pub record IsCarriedCell (k : Kind) (L : Links) (Live : ℕ → Type 0) (label : ℕ → ℕ → Option ℕ) (pool : Store) (hook : Hook) (rules : List (Option Rule)) (touched : ℕ → List ℕ) (g : Group) : Type 0 where
  pub cell : IsTouchedCell k L rules touched g
  pub value : HasCarriedValue k L Live label pool hook rules g

-- dart t is touched in dimension i, which has a rule
abbrev pub IsWanted : List (Option Rule) → (ℕ → List ℕ) → ℕ → ℕ → Type 0
IsWanted rules touched i t = IsSome (rule_at rules i) × Contains (touched i) t

-- The groups are good ones of some dimensions, they hold each dart that is wanted in such a dimension, and they ascend.
pub record AreAllOf (Good : Group → Type 0) (Wanted : ℕ → ℕ → Type 0) (Among : ℕ → Type 0) (groups : List Group) : Type 0 where
  pub good : (n : ℕ) → n < length groups → Good (group_at groups n)
  pub among : (n : ℕ) → n < length groups → Among (group_at groups n).dim
  pub all : (i t : ℕ) → Among i → Wanted i t → (n : ℕ) × (n < length groups) × ((group_at groups n).dim ≡ i) × Contains (group_at groups n).darts t
  pub ascending : (m n : ℕ) → m < n → n < length groups → IsBefore (group_at groups m) (group_at groups n)
