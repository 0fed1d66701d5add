-- The words of a vertex of a combinatorial map, by their farther link.
use Rattle.std.specs.Prelude.{ℕ, ◌≡◌, ◌⊎◌, ◌≤◌, ◌<◌}
use Rattle.map_defs.specs.Kind.{beta, inverse}
use Rattle.map_defs.specs.LinkWords.{LinkWord, two_links}

-- "far, then near", or its inverse
abbrev pub IsVertexWordOf : ℕ → ℕ → LinkWord → Type 0
IsVertexWordOf near far w = (w ≡ two_links far near) ⊎ (w ≡ two_links (inverse beta near) far)

-- such a word with this farther link, and a nearer one below a bound
abbrev pub IsVertexWordTo : ℕ → ℕ → LinkWord → Type 0
IsVertexWordTo bound far w = (near : ℕ) × (1 ≤ near) × (near < bound) × IsVertexWordOf near far w

-- such a word whose farther link is below a bound
abbrev pub IsVertexWordBelow : ℕ → LinkWord → Type 0
IsVertexWordBelow bound w = (far : ℕ) × (far < bound) × IsVertexWordTo far far w
