-- How walks over a whole map mark what lies in an orbit.
use Rattle.std.specs.Prelude.{ℕ, ◌≡◌, ◌<◌, ◌↔◌, false, List, slice_index_or, All, Contains, IsTrue}
use Rattle.map_defs.specs.Kind.{Kind}
use Rattle.map_defs.specs.LinkWords.{LinkWord, one_link}
use Rattle.cell_walk.specs.declared.ways.Ways.{Ways}
use Rattle.cell_walk.specs.declared.sweep.Sweep.{Sweep}
use Rattle.cell_walk.specs.declared.sweep.Sweep.TheVariants.{Turns, Again, Rows, Words}
use Rattle.cell_walk.specs.Ways.{IsLink, AreAlong}

-- two links take turns both ways
abbrev pub turning : ℕ × ℕ → ℕ × ℕ → Ways
turning forth back = record {
  forth = record { next = one_link forth.0; after = one_link forth.1 };
  back = record { next = one_link back.0; after = one_link back.1 };
}

-- a word leads on and another one back, again and again
abbrev pub keeping : LinkWord → LinkWord → Ways
keeping forth back = record {
  forth = record { next = forth; after = forth };
  back = record { next = back; after = back };
}

-- the word is one of these links, below a number
abbrev pub IsAmong : ℕ → (ℕ → Type 0) → LinkWord → Type 0
IsAmong n Wanted w = (j : ℕ) × (j < n) × Wanted j × (w ≡ one_link j)

-- the links are told whose words are among these
abbrev pub AreWanted : List LinkWord → (ℕ → Type 0) → Type 0
AreWanted words Wanted = (j : ℕ) → Wanted j ↔ Contains words (one_link j)

-- orbits along these words may be marked so
abbrev pub IsSweep : Kind → List LinkWord → Sweep → Type 0
IsSweep k words (Turns forth back) = AreAlong k words (turning forth back)
IsSweep k words (Again forth back) = AreAlong k words (keeping forth back)
IsSweep k words (Rows wanted) = All IsLink words × AreWanted words (λ j. IsTrue (slice_index_or wanted j false))
IsSweep k words Words = Unit {0}
