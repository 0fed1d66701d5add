-- The numbers behind the first word of a line, of which there are at most three.
use Rattle.std.specs.Prelude.{ℕ, ◌≡◌, List, [], ◌∷◌, Option, Some, None}
use Rattle.std.specs.Option.{option_and_then}
use Rattle.machine_defs.specs.Script.{numbers_line}
use Rattle.script_text.specs.declared.numbers.Numbers.{Numbers}
use Rattle.script_text.specs.declared.numbers.Numbers.TheVariants as numbers

-- the numbers, one after the other
abbrev pub given : Numbers → List ℕ
given numbers.Zero = []
given (numbers.One a) = a ∷ []
given (numbers.Two a b) = a ∷ b ∷ []
given (numbers.Three a b c) = a ∷ b ∷ c ∷ []

-- the numbers that words write, or that no line has these numbers alone
abbrev pub ReadsNumbers : Option Numbers → Option (List ℕ) → Type 0
ReadsNumbers (Some found) told = told ≡ Some (given found)
ReadsNumbers None told = (first : List ℕ) → option_and_then (numbers_line first) told ≡ None
