-- What words tell, as far as they are read.
use Rattle.std.proofs.Common.{ℕ, List, ◌++◌, Option}
use Rattle.std.specs.Option.{option_map}

-- the numbers of words whose first ones write these numbers
abbrev pub behind : List ℕ → Option (List ℕ) → Option (List ℕ)
behind numbers more = option_map (λ others. numbers ++ others) more
