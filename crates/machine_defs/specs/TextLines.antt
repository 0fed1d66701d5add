-- Lines of text, and numbers on them. Source: this project's formats.
use Rattle.std.specs.Prelude.{ℕ, ℤ, List, [], ◌∷◌, ◌++◌}
use Rattle.std.specs.Fmt.{decimal, signed_decimal}

-- a line of text ends with a line feed
abbrev pub ended : List ℕ → List ℕ
ended text = text ++ 10 ∷ []

-- numbers on a line stand behind a space each
abbrev pub spaced : ℕ → List ℕ
spaced n = 32 ∷ decimal n

abbrev pub spaced_signed : ℤ → List ℕ
spaced_signed z = 32 ∷ signed_decimal z
