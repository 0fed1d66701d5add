-- New darts and their numbers. Source: this project's.
use Rattle.std.specs.Prelude.{ℕ, ◌≡◌, ◌≢◌, ◌+◌, ◌<◌, ◌≤◌, ◌⊎◌, ◌↔◌, List, length, Contains, slice_index}
use Rattle.std.specs.List.Sorted.{IsStrictlyIncreasing}
use Rattle.map_defs.specs.Links.{Links}

-- Each dart x of K has a new dart star x: no two the same, none of them linked or in K before. And star 0 is 0, so that
-- a new dart's link is free where the old one that it is made of is free.
pub record IsFresh (L : Links) (K : ℕ → Type 0) (star : ℕ → ℕ) : Type 0 where
  pub nothing : star 0 ≡ 0
  pub dart : (x : ℕ) → K x → star x ≢ 0
  pub one : (x y : ℕ) → K x → K y → star x ≡ star y → x ≡ y
  pub outside : (x : ℕ) → K x → K (star x) → ⊥
  pub unlinked : (t x : ℕ) → K x → L t (star x) ≡ 0

-- star numbers the darts of K from made: these are the keys, ascending, and get made + 1, made + 2 and so on
pub record IsNumbered (K : ℕ → Type 0) (keys : List ℕ) (made : ℕ) (star : ℕ → ℕ) : Type 0 where
  pub nothing : star 0 ≡ 0
  pub ascending : IsStrictlyIncreasing keys
  pub members : (x : ℕ) → Contains keys x ↔ K x
  pub numbers : (p : ℕ) → p < length keys → star (slice_index keys p) ≡ made + 1 + p

-- count new darts live, numbered on from made, and nothing dies
abbrev pub AreBorn : ℕ → ℕ → (ℕ → Type 0) → (ℕ → Type 0) → Type 0
AreBorn made count Live LiveAfter = (x : ℕ) → LiveAfter x ↔ (Live x ⊎ ((made < x) × (x ≤ made + count)))

-- the live darts are numbers from 1 to made
abbrev pub IsCounted : ℕ → (ℕ → Type 0) → Type 0
IsCounted made Live = (x : ℕ) → Live x → (1 ≤ x) × (x ≤ made)
