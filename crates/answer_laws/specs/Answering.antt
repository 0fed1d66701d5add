-- What it is to have an answer, and what a line needs for one. Source: this project's.
use Rattle.std.specs.Prelude.{ℕ, List}
use Rattle.map_defs.specs.Values.{Hook}
use Rattle.machine_defs.specs.State.{State}
use Rattle.machine_defs.specs.Script.{Line, Log}
use Rattle.machine_defs.specs.Text.{Reply}
use Rattle.machine_defs.specs.Machine.{Step, Run}
use Rattle.machine_defs.specs.Outside.{Files, IsFront}
use Rattle.machine_defs.specs.Program.{ProgramAnswer}
use Rattle.machine_laws.specs.Tracing.{AreTraced}

-- it is not so that there is no A
abbrev pub NotNot : Type 0 → Type 0
NotNot A = (A → ⊥) → ⊥

-- the machine can take a step: some reply and some new state are its answer to the line
abbrev pub HasStep : Hook → State → Line → Type 0
HasStep hook s line = (reply : Reply) × (new : State) × Step hook s line reply new

-- the machine can obey all lines of a script
abbrev pub HasRun : Hook → State → List (List ℕ) → Type 0
HasRun hook s lines = (replies : List Reply) × (new : State) × Run hook s lines replies new

-- the program has a text and a status
abbrev pub HasAnswer : Hook → List (List ℕ) → Files → Type 0
HasAnswer hook words files = (text : List ℕ) × (status : ℕ) × ProgramAnswer hook words files text status

-- the program has a text that begins so, and a status
abbrev pub HasWhole : Hook → List (List ℕ) → Files → List ℕ → Type 0
HasWhole hook words files front = (text : List ℕ) × (status : ℕ) × ProgramAnswer hook words files text status × IsFront front text

-- A log needs that each content which the state keeps can follow the one before it: where darts were lost between two
-- contents, numbers and all, no difference leads from the one to the other. No other line needs anything.
abbrev pub AnswerNeeds : Line → State → Type 0
AnswerNeeds (Log name) s = AreTraced s
AnswerNeeds line s = Unit {0}
