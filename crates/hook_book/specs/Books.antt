-- What a list of named rules over a hook does, and what faults its names have.
use Rattle.std.specs.Prelude.{ℕ, ◌≡◌, ◌<◌, false, List, [], ◌∷◌, length, map, take, cond, slice_index_or, Option, Some, None, All}
use Rattle.std.specs.Str.{bytes_eq}
use Rattle.map_defs.specs.Values.{Meaning, Hook, KeepsWhole, is_among}
use Rattle.map_defs.specs.RuleNames.{IsFreeName}

-- what the first rule of this name does, or else the base
abbrev pub meaning_among : {R : Type 0} → Meaning → (R → List ℕ) → (R → Meaning) → List R → List ℕ → Meaning
meaning_among base called does [] name = base
meaning_among base called does (rule ∷ rules) name = cond (bytes_eq name (called rule)) (does rule) (meaning_among base called does rules name)

-- the hook that answers as this base, and by names as these rules
abbrev pub book_of : {R : Type 0} → Meaning → (R → List ℕ) → (R → Meaning) → List R → Hook
book_of base called does rules = record { host = base; names = map called rules; named = meaning_among base called does rules }

-- A book of these rules may be called: its base may, each rule may, no name stands in a table or is no name, and each rule
-- leaves whole what is not split.
pub record IsReady {R : Type 0} (base : Type 0) (may : R → Type 0) (called : R → List ℕ) (does : R → Meaning) (kept : List R) : Type 0 where
  pub begun : base
  pub rules : All may kept
  pub free : All IsFreeName (map called kept)
  pub whole : All (λ rule. KeepsWhole (does rule)) kept

-- the first place of a name in a list; none where it does not stand there
abbrev pub IsPlaceOf : List (List ℕ) → List ℕ → Option ℕ → Type 0
IsPlaceOf names name None = is_among names name ≡ false
IsPlaceOf names name (Some place) = (place < length names) × (is_among (take place names) name ≡ false) × (slice_index_or names place [] ≡ name)

-- up to here each name is free, and no two are the same
pub record AreFine (names : List (List ℕ)) (places : ℕ) : Type 0 where
  pub free : (place : ℕ) → place < places → IsFreeName (slice_index_or names place [])
  pub apart : (place : ℕ) → place < places → is_among (take place names) (slice_index_or names place []) ≡ false
