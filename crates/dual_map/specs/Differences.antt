-- The changes that lead from links to other links, where they differ.
use Rattle.std.specs.Prelude.{ℕ, ◌+◌, ◌==◌, if◌then◌else◌, List, [], ◌∷◌}
use Rattle.std.specs.List.{flat_map, range_with_len}
use Rattle.map_defs.specs.Links.{Links}
use Rattle.map_defs.specs.Edits.{Change}

-- the change of link i of dart d
abbrev pub link_changes : Links → Links → ℕ → ℕ → List Change
link_changes L N d i = if L i d == N i d then [] else record { dart = d; link = i; old = L i d; new = N i d } ∷ []

-- the changes of the links 0 to n of dart d
abbrev pub dart_changes : ℕ → Links → Links → ℕ → List Change
dart_changes n L N d = flat_map (link_changes L N d) (range_with_len 0 (n + 1))

-- the changes of the darts 1 to made
abbrev pub map_changes : ℕ → Links → Links → ℕ → List Change
map_changes n L N made = flat_map (λ p. dart_changes n L N (p + 1)) (range_with_len 0 made)
