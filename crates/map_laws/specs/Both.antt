-- A line and the one that undoes it. Source: this project's.
use Rattle.std.specs.Prelude.{ℕ, ◌≡◌}
use Rattle.map_defs.specs.Values.{Hook}
use Rattle.machine_defs.specs.State.{State}
use Rattle.machine_defs.specs.Script.{Line}
use Rattle.machine_defs.specs.Machine.{Step}
use Rattle.machine_defs.specs.Text as text
use Rattle.machine_defs.specs.Text.{Reply}
use Rattle.map_kind.specs.Refusals.{meaning}
use Rattle.map_kind.specs.declared.refusal.Refused.TheVariants as why
use Rattle.map_laws.specs.declared.fault.LawFault.{LawFault}
use Rattle.map_laws.specs.declared.fault.LawFault.TheVariants.{First, SecondNoMemory}

-- the machine obeys the first line and then the second, with these replies
abbrev pub ObeysBoth : Hook → State → Line → Reply → Line → Reply → State → Type 0
ObeysBoth hook s first one second two new = (mid : State) × Step hook s first one mid × Step hook mid second two new

-- Why a line and the one that undoes it were not both obeyed: the machine refuses the first, or memory was wanting for it, and
-- the state is as it was; or memory was wanting for the second, and the state is as the first left it.
abbrev pub FailsAt : Hook → State → Line → LawFault → State → Type 0
FailsAt hook s first (First (why.Line r)) new = Step hook s first (text.Refused (meaning r)) s × (new ≡ s)
FailsAt hook s first (First why.NoMemory) new = new ≡ s
FailsAt hook s first SecondNoMemory new = (dart count : ℕ) × Step hook s first (text.Done dart count) new
