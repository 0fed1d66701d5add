-- A shelf and a sink in memory, of which some calls fail. This project's own.
use Rattle.std.specs.Prelude.{ℕ, ◌+◌, ◌-◌, ◌^◌, min, List, [], ◌∷◌, Option, Some, None, if◌then◌else◌, eqb}
use Rattle.machine_defs.specs.Outside.{Files}
use Rattle.map_io.specs.declared.memory.SinkFail.{SinkFail}

-- the files, the numbers of the calls that fail, how many calls there were, and how many of them failed
pub record FailingFiles : Type 0 where
  pub files : Files
  pub fail : List ℕ
  pub calls : ℕ
  pub faults : ℕ

-- the text, the calls that fail, how many calls there were, and how many of them failed
pub record FailingText : Type 0 where
  pub text : List ℕ
  pub fail : List SinkFail
  pub calls : ℕ
  pub faults : ℕ

-- the number of the next call after so many calls: numbers go on from 1, until the last of 64 bits
abbrev pub next_call : ℕ → ℕ
next_call calls = min (calls + 1) (2 ^ 64 - 1)

-- how many bytes the call of a number takes if it fails; where a number stands twice, the first entry counts
abbrev pub taken_at : List SinkFail → ℕ → Option ℕ
taken_at [] call = None
taken_at (told ∷ more) call = (if eqb told.call call then Some told.taken else taken_at more call)
