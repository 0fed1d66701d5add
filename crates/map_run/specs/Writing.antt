-- What was written of the reply to a line, whole or cut short.
use Rattle.std.specs.Prelude.{ℕ, ◌≡◌, ◌⊎◌, List, [], Option, Result, Ok, Err, Bool}
use Rattle.map_io.specs.declared.sink.PutFault.{PutFault}
use Rattle.map_io.specs.declared.sink.PutFault.TheVariants.{Failed, NoMemory}
use Rattle.machine_defs.specs.Outside.{Appended, IsFront}
use Rattle.machine_defs.specs.Program.{EndsLine}
use Rattle.map_defs.specs.Values.{Hook}
use Rattle.map_kind.specs.declared.done.Done.{Done}
use Rattle.map_kind.specs.declared.refusal.Refused.{Refused}
use Rattle.map_kind.specs.declared.refusal.Refused.TheVariants as why
use Rattle.map_kind.specs.Refusals.{meaning}
use Rattle.machine_defs.specs.State.{State}
use Rattle.machine_defs.specs.Text.{Reply, reply_text, replies_text, is_refused, any_refused}
use Rattle.machine_defs.specs.Text as text
use Rattle.machine_defs.specs.Machine.{Obeys}

-- a front of what a line answers
abbrev pub IsFrontOfLine : Hook → State → List (List ℕ) → List ℕ → Type 0
IsFrontOfLine hook s words piece = (replies : List Reply) × (new : State) × Obeys hook s words replies new × IsFront piece (replies_text replies)

-- The answer to one line: whether it was refused. Want of memory may come before the reply is known.
abbrev pub IsAnswered : Hook → State → State → List (List ℕ) → Result Bool PutFault → List ℕ → Type 0
IsAnswered hook s new words (Ok refused) piece =
    (replies : List Reply) × Obeys hook s words replies new × (piece ≡ replies_text replies) × (refused ≡ any_refused replies)
IsAnswered hook s new words (Err Failed) piece = IsFrontOfLine hook s words piece
IsAnswered hook s new words (Err NoMemory) piece = EndsLine piece × ((piece ≡ []) ⊎ IsFrontOfLine hook s words piece)

pub record AnswersLine (hook : Hook) (before after : Option (List ℕ)) (s new : State) (words : List (List ℕ)) (result : Result Bool PutFault) : Type 0 where
  pub piece : List ℕ
  pub appended : Appended before after piece
  pub is : IsAnswered hook s new words result piece

-- The reply was written whole, and it is told whether it is a refusal; or a front of it was written.
abbrev pub IsSaid : Reply → Result Bool PutFault → List ℕ → Type 0
IsSaid reply (Ok refused) piece = (piece ≡ reply_text reply) × (refused ≡ is_refused reply)
IsSaid reply (Err Failed) piece = IsFront piece (reply_text reply)
IsSaid reply (Err NoMemory) piece = EndsLine piece × IsFront piece (reply_text reply)

pub record Says (before after : Option (List ℕ)) (reply : Reply) (result : Result Bool PutFault) : Type 0 where
  pub piece : List ℕ
  pub appended : Appended before after piece
  pub is : IsSaid reply result piece

-- why a line was refused was said; where memory was wanting, nothing was written
abbrev pub SaysRefused : Option (List ℕ) → Option (List ℕ) → Refused → Result Bool PutFault → Type 0
SaysRefused before after (why.Line refusal) result = Says before after (text.Refused (meaning refusal)) result
SaysRefused before after why.NoMemory result = (result ≡ Err NoMemory) × (after ≡ before)

-- what a changing line made was said, or why it was refused
abbrev pub SaysMade : Option (List ℕ) → Option (List ℕ) → Result Done Refused → Result Bool PutFault → Type 0
SaysMade before after (Ok done) result = Says before after (text.Done done.first done.count) result
SaysMade before after (Err refused) result = SaysRefused before after refused result
