-- The places of a closed path, and what is looked at for each of its sides.
use Rattle.std.specs.Prelude.{ℕ, ◌+◌, ◌==◌, if◌then◌else◌, List, [], ◌∷◌}
use Rattle.map_defs.specs.Kind.{Kind, alpha, beta}
use Rattle.map_defs.specs.Links.{Links}
use Rattle.map_defs.specs.LinkWords.{LinkWord, one_link, two_links}
use Rattle.sewing.specs.Triples.{Triple}

-- the place after place p in a circle of so many places
abbrev pub next_place : ℕ → ℕ → ℕ
next_place count p = if p + 1 == count then 0 else p + 1

-- the words around a vertex of a volume
abbrev pub vertex_words : Kind → List LinkWord
vertex_words alpha = one_link 1 ∷ one_link 2 ∷ []
vertex_words beta = two_links 2 1 ∷ two_links 0 2 ∷ []

-- the seed of a face's pairs that joins the end of side b to the start of side c
abbrev pub side_seed : Kind → Links → ℕ → ℕ → Triple
side_seed alpha L b c = record { x = L 0 b; y = c; t = 1 }
side_seed beta L b c = record { x = c; y = b; t = 1 }
