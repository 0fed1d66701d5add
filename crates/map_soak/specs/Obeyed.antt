-- Lines that were obeyed, and counted.
use Rattle.std.specs.Prelude.{ℕ, ◌≡◌, ◌+◌, List, Option, length}
use Rattle.map_defs.specs.Kind.{Kind}
use Rattle.map_defs.specs.Values.{Hook}
use Rattle.machine_defs.specs.State.{State}
use Rattle.machine_defs.specs.Script.{Line}
use Rattle.machine_defs.specs.Text.{Reply}
use Rattle.machine_defs.specs.Soaking.{Takes, TakesSquares, accepted}
use Rattle.map_soak.specs.declared.tally.Tally.{Tally}

-- the lines that were replied to so were counted
abbrev pub IsCounted : Tally → List Reply → Tally → Type 0
IsCounted old replies new = (new.lines ≡ old.lines + length replies) × (new.accepted ≡ old.accepted + accepted replies)

-- the machine takes these lines, and they are counted by its replies
abbrev pub Obeys : Hook → State → List Line → Tally → State → Tally → Type 0
Obeys hook s lines old new counted = (replies : List Reply) × Takes hook s lines replies new × IsCounted old replies counted

-- the machine takes the lines of so many squares more, and they are counted by its replies
abbrev pub ObeysSquares : Hook → Kind → Option ℕ → ℕ → ℕ → State → Tally → State → Tally → Type 0
ObeysSquares hook kind before seed count s old new counted =
    (replies : List Reply) × TakesSquares hook kind before seed count s replies new × IsCounted old replies counted
