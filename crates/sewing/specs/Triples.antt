-- Lists of triples, which say what a pairing has found.
use Rattle.std.specs.Prelude.{ℕ, ◌≡◌, ◌<◌, ◌⊎◌, List, Contains}
use Rattle.std.specs.List.{AllPairs}

-- link t of dart x is to be dart y
pub record Triple : Type 0 where
  pub x : ℕ
  pub y : ℕ
  pub t : ℕ

-- the triple x, y, t is in the list
abbrev pub Lists : List Triple → ℕ → ℕ → ℕ → Type 0
Lists triples x y t = Contains triples (record { x = x; y = y; t = t })

-- a comes before b: by its x, and where these are the same by its t
abbrev pub ComesBefore : Triple → Triple → Type 0
ComesBefore a b = (a.x < b.x) ⊎ ((a.x ≡ b.x) × (a.t < b.t))

-- ascending by x, then by t, and no x and t stand there twice
abbrev pub IsAscending : List Triple → Type 0
IsAscending triples = AllPairs ComesBefore triples
