-- Walks out of a set of darts. Source: the textbook's removal and contraction, where a link is drawn across a cell.
use Rattle.std.specs.Prelude.{ℕ, zero, suc, ◌⊎◌}
use Rattle.map_defs.specs.Links.{Links}

-- From x the walk leads to y: y is the first of x, Step x, Step (Step x) and so on that is outside C.
pub data Walk (C : ℕ → Type 0) (Step : ℕ → ℕ) : ℕ → ℕ → Type 0 where
  stop : {x : ℕ} → (C x → ⊥) → Walk C Step x x
  go : {x y : ℕ} → C x → Walk C Step (Step x) y → Walk C Step x y

-- the first dart, or the second if the first is none
abbrev pub dart_or : ℕ → ℕ → ℕ
dart_or zero d = d
dart_or (suc e) d = suc e

-- the dart at link i of d, or d itself if d is i-free: the textbook's involution
abbrev pub step : Links → ℕ → ℕ → ℕ
step L i d = dart_or (L i d) d

-- it is told of each dart whether it lies in C, as a list of the darts tells it
abbrev pub IsTold : (ℕ → Type 0) → Type 0
IsTold C = (x : ℕ) → C x ⊎ (C x → ⊥)
