-- What the script's loop has done so far, and what it has done in the end.
use Rattle.std.specs.Prelude.{ℕ, ◌≡◌, List, Option, Result, Ok, Err, Bool}
use Rattle.map_io.specs.declared.sink.PutFault.{PutFault}
use Rattle.map_io.specs.declared.sink.PutFault.TheVariants.{Failed, NoMemory}
use Rattle.machine_defs.specs.Outside.{Appended}
use Rattle.map_defs.specs.Values.{Hook}
use Rattle.machine_defs.specs.State.{State}
use Rattle.machine_defs.specs.Script.{lines_of}
use Rattle.machine_defs.specs.Text.{Reply, replies_text, any_refused}
use Rattle.machine_defs.specs.Machine.{Run}
use Rattle.machine_defs.specs.Program.{EndsLine, Begins, ScriptAnswer, run_status}

-- These lines are obeyed, and their replies are written.
pub record IsGoing (hook : Hook) (start now : State) (done : List (List ℕ)) (refused : Bool) (before after : Option (List ℕ)) : Type 0 where
  pub replies : List Reply
  pub run : Run hook start done replies now
  pub any : refused ≡ any_refused replies
  pub appended : Appended before after (replies_text replies)

-- the replies to the whole script; or a front of them
abbrev pub IsObeyed : Hook → State → List ℕ → Result Bool PutFault → List ℕ → Type 0
IsObeyed hook start script (Ok refused) piece = ScriptAnswer hook start script piece (run_status refused)
IsObeyed hook start script (Err Failed) piece = Begins hook start (lines_of script) piece
IsObeyed hook start script (Err NoMemory) piece = EndsLine piece × Begins hook start (lines_of script) piece

pub record ObeysScript (hook : Hook) (before after : Option (List ℕ)) (start : State) (script : List ℕ) (result : Result Bool PutFault) : Type 0 where
  pub piece : List ℕ
  pub appended : Appended before after piece
  pub is : IsObeyed hook start script result piece
