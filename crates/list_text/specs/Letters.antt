-- The letters by which listings name the kinds of map.
use Rattle.std.specs.Prelude.{ℕ, ◌≡◌, ◌==◌, if◌then◌else◌}
use Rattle.map_defs.specs.Kind.{Kind, alpha, beta, letter}

-- the kind that a letter names
abbrev pub kind_named : ℕ → Kind
kind_named l = if l == letter alpha then alpha else beta

-- a byte that is the letter of a kind
abbrev pub IsLetter : ℕ → Type 0
IsLetter l = l ≡ letter (kind_named l)
