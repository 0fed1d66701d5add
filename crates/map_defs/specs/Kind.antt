-- The two kinds of map, and how their links relate. Source: Damiand and Lienhardt, Combinatorial Maps; CGAL.
use Rattle.std.specs.Prelude.{ℕ, zero, suc, ◌+◌, ◌≤◌, ◌⊎◌}

-- A generalized map has the links alpha 0 to n. A combinatorial map has the links beta 1 to n, and its link 0 is the
-- inverse of beta 1.
pub data Kind : Type 0 where
  alpha : Kind
  beta : Kind

-- the link that leads back: each link is its own, but 0 and 1 of a combinatorial map are each other's
abbrev pub inverse : Kind → ℕ → ℕ
inverse alpha i = i
inverse beta zero = 1
inverse beta (suc zero) = 0
inverse beta (suc (suc i)) = suc (suc i)

-- where a link stands among the others: link 0 of a combinatorial map stands with link 1
abbrev pub place : Kind → ℕ → ℕ
place alpha i = i
place beta zero = 1
place beta (suc i) = suc i

-- two links are distant if they stand at least two places apart
unfoldable pub IsDistant : Kind → ℕ → ℕ → Type 0
IsDistant k i j = (place k i + 2 ≤ place k j) ⊎ (place k j + 2 ≤ place k i)

-- a kind's letter: g for generalized maps, c for combinatorial maps
abbrev pub letter : Kind → ℕ
letter alpha = 103
letter beta = 99
