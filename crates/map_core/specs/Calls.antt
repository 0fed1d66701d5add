-- What calls answer and leave, told by the steps of the plain map machine.
use Rattle.std.specs.Prelude.{ℕ, ◌≡◌, ◌<◌, ◌≤◌, Result, Ok, Err, Vec}
use Rattle.std.specs.declared.alloc.Global.{Global}
use Rattle.map_kind.specs.declared.refusal.Refusal.{Refusal}
use Rattle.map_kind.specs.declared.refusal.Refusal.TheVariants.{BadDim}
use Rattle.map_kind.specs.declared.refusal.Refused.{Refused}
use Rattle.map_kind.specs.declared.refusal.Refused.TheVariants as why
use Rattle.map_kind.specs.Refusals.{meaning}
use Rattle.map_kind.specs.declared.done.Done.{Done}
use Rattle.map_defs.specs.Values.{Hook}
use Rattle.machine_defs.specs.State.{State, Content}
use Rattle.machine_defs.specs.Listing.{ListValue, ListsValuesIn}
use Rattle.machine_defs.specs.Script.{Line}
use Rattle.machine_defs.specs.Machine.{Step}
use Rattle.machine_defs.specs.Text as text

-- The call of a changing line answers and leaves what the machine does beside this hook; where memory was wanting, the
-- state is as it was.
abbrev pub Does : Hook → State → Line → Result Done Refused → State → Type 0
Does hook s line (Ok done) new = Step hook s line (text.Done done.first done.count) new
Does hook s line (Err (why.Line r)) new = Step hook s line (text.Refused (meaning r)) new
Does hook s line (Err why.NoMemory) new = new ≡ s

-- The call of a question answers what the machine does, the answer being told as that reply.
abbrev pub AnswersQuestion : {A : Type 0} → Hook → State → Line → (A → text.Reply) → Result A Refused → Type 0
AnswersQuestion hook s line reply (Ok answer) = Step hook s line (reply answer) s
AnswersQuestion hook s line reply (Err (why.Line r)) = Step hook s line (text.Refused (meaning r)) s
AnswersQuestion hook s line reply (Err why.NoMemory) = Unit {0}

-- the same of a question that takes no memory
abbrev pub AnswersAtOnce : {A : Type 0} → Hook → State → Line → (A → text.Reply) → Result A Refusal → Type 0
AnswersAtOnce hook s line reply (Ok answer) = Step hook s line (reply answer) s
AnswersAtOnce hook s line reply (Err r) = Step hook s line (text.Refused (meaning r)) s

-- the valued cells of a dimension, which is not above that of the content; else the refusal that it is
abbrev pub TellsValues : Content → ℕ → Result (Vec ListValue Global) Refused → Type 0
TellsValues c dim (Ok values) = (dim ≤ c.dim) × ListsValuesIn c dim values.items
TellsValues c dim (Err (why.Line r)) = (r ≡ BadDim) × (c.dim < dim)
TellsValues c dim (Err why.NoMemory) = Unit {0}
