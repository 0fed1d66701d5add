-- How the program ends.
use Rattle.std.specs.Prelude.{ℕ, ◌≡◌, ◌≤◌, ◌⊎◌, List, [], Option, Some, None, Result, Ok, Err, Bool, true, false}
use Rattle.map_io.specs.declared.shelf.FetchFault.{FetchFault}
use Rattle.map_io.specs.declared.shelf.FetchFault.TheVariants as fetch
use Rattle.map_io.specs.declared.sink.PutFault.{PutFault}
use Rattle.map_io.specs.declared.sink.PutFault.TheVariants.{Failed, NoMemory}
use Rattle.map_defs.specs.Values.{Hook}
use Rattle.machine_defs.specs.Outside.{Files, Appended, IsFront}
use Rattle.machine_defs.specs.Program.{Outcome, ProgramAnswer, EndsLine, cannot_read, too_long}

-- the one line that ends the program was written whole, and the status is as it should be; or the sink had a fault; or
-- there was no memory
abbrev pub IsLast : Type 0 → List ℕ → ℕ → ℕ → List ℕ → Type 0
IsLast rose line status result piece =
    ((result ≡ status) × (piece ≡ line)) ⊎ ((result ≡ 6) × rose × IsFront piece line) ⊎ ((result ≡ 7) × (piece ≡ []))

pub record WritesLast (before after : Option (List ℕ)) (rose : Type 0) (line : List ℕ) (status result : ℕ) : Type 0 where
  pub piece : List ℕ
  pub appended : Appended before after piece
  pub is : IsLast rose line status result piece

-- the line that ends the program where a file was not fetched, and the status; none for want of memory
abbrev pub last_of : FetchFault → Option (List ℕ × ℕ)
last_of fetch.Failed = Some (cannot_read, 5)
last_of (fetch.TooLong seen) = Some (too_long, 4)
last_of fetch.NoMemory = None

-- the one line that ends the program with status 3 was written so; where there is none, for want of memory, nothing was
abbrev pub IsRefused : Option (List ℕ) → Option (List ℕ) → Type 0 → Option (List ℕ) → ℕ → Type 0
IsRefused before after rose None result = (result ≡ 7) × (after ≡ before)
IsRefused before after rose (Some line) result = WritesLast before after rose line 3 result

-- the status of a script that was obeyed, or cut short
abbrev pub status_of : Result Bool PutFault → ℕ
status_of (Ok false) = 0
status_of (Ok true) = 1
status_of (Err Failed) = 6
status_of (Err NoMemory) = 7

-- the status of an answer that was written, or cut short
abbrev pub put_status : ℕ → Result (Unit {0}) PutFault → ℕ
put_status status (Ok done) = status
put_status status (Err Failed) = 6
put_status status (Err NoMemory) = 7

-- A text that answers, which is known before any of it is written, was written whole, or cut short; or there was no memory
-- for it.
pub data AnswerEnd (Answer : List ℕ → ℕ → Type 0) (rose : Type 0) (status : ℕ) (piece : List ℕ) : Type 0 where
  done : Answer piece status → status ≤ 4 → AnswerEnd Answer rose status piece
  cut_short : (text : List ℕ) (whole : ℕ) → Answer text whole → IsFront piece text
      → ((status ≡ 6) × rose) ⊎ ((status ≡ 7) × EndsLine piece) → AnswerEnd Answer rose status piece
  out_of_memory : status ≡ 7 → piece ≡ [] → AnswerEnd Answer rose status piece

pub record EndsAnswer (Answer : List ℕ → ℕ → Type 0) (rose : Type 0) (before after : Option (List ℕ)) (status : ℕ) : Type 0 where
  pub piece : List ℕ
  pub appended : Appended before after piece
  pub end : AnswerEnd Answer rose status piece

-- What a call appended, with its outcome. Where the sink does not tell what was written, the outcome still tells of the
-- status.
pub record EndsCall (hook : Hook) (before after : Option (List ℕ)) (words : List (List ℕ)) (files : Files) (shelf_rose sink_rose : Type 0) (status : ℕ) : Type 0 where
  pub text : List ℕ
  pub appended : Appended before after text
  pub outcome : Outcome hook words files shelf_rose sink_rose status text

-- What a call appended is the whole text, and the status is that of the text.
pub record EndsWhole (hook : Hook) (before after : Option (List ℕ)) (words : List (List ℕ)) (files : Files) (status : ℕ) : Type 0 where
  pub text : List ℕ
  pub appended : Appended before after text
  pub answers : ProgramAnswer hook words files text status
