-- Pairs of darts that a link is to join, as a least set of triples, and when such a set can be joined. Source: the
-- textbook's bijection between two orbits; the form as a least set is this project's.
use Rattle.std.specs.Prelude.{ℕ, ◌≡◌, ◌≢◌, ◌↔◌}
use Rattle.map_defs.specs.Kind.{Kind, inverse}
use Rattle.map_defs.specs.Links.{Links}

-- A triple x, y, t says that link t of x is to be y. The least set that holds the seeds, holds each triple turned
-- round, and goes along the links of J: where link j of x and the inverse link of y are there, these are paired too.
pub data InPairs (k : Kind) (L : Links) (J : ℕ → Type 0) (Seed : ℕ → ℕ → ℕ → Type 0) : ℕ → ℕ → ℕ → Type 0 where
  seed : {x y t : ℕ} → Seed x y t → InPairs k L J Seed x y t
  turned : {x y t : ℕ} → InPairs k L J Seed x y t → InPairs k L J Seed y x (inverse k t)
  across : {x y t : ℕ} (j : ℕ) → J j → InPairs k L J Seed x y t → L j x ≢ 0 → L (inverse k j) y ≢ 0 → InPairs k L J Seed (L j x) (L (inverse k j) y) (inverse k t)

-- a set of triples that can be joined
pub record IsGood (k : Kind) (L : Links) (J : ℕ → Type 0) (P : ℕ → ℕ → ℕ → Type 0) : Type 0 where
  -- for each x and t there is one y
  pub one : (x y z t : ℕ) → P x y t → P x z t → y ≡ z
  -- a link that is its own inverse pairs no dart with itself
  pub moves : (x y t : ℕ) → P x y t → inverse k t ≡ t → x ≢ y
  -- The two darts of a triple are alike free at the links of J. Where alpha 0 joins darts 1 and 2, dart 3 without links
  -- could else be sewn to dart 1 by alpha 2, and dart 2 would lack what dart 1 has.
  pub even : (x y t j : ℕ) → P x y t → J j → (L j x ≡ 0) ↔ (L (inverse k j) y ≡ 0)

-- the one seed d, e, i
abbrev pub JustOne : ℕ → ℕ → ℕ → ℕ → ℕ → ℕ → Type 0
JustOne d e i x y t = (x ≡ d) × (y ≡ e) × (t ≡ i)

-- after the joining, link t of x is y for each triple, and all else is as before
pub record IsJoined (P : ℕ → ℕ → ℕ → Type 0) (L N : Links) : Type 0 where
  pub joined : (x y t : ℕ) → P x y t → N t x ≡ y
  pub kept : (x t : ℕ) → ((y : ℕ) → P x y t → ⊥) → N t x ≡ L t x
