-- The files of a command, and how the program ends by them.
use Rattle.std.specs.Prelude.{ℕ, ◌≡◌, ◌≤◌, List, [], length, Option, Some, None, Result, Ok, Err, Bool, Vec}
use Rattle.std.specs.declared.alloc.Global.{Global}
use Rattle.map_io.specs.declared.shelf.FetchFault.{FetchFault}
use Rattle.map_io.specs.declared.shelf.FetchFault.TheVariants as fetch
use Rattle.map_io.specs.declared.sink.PutFault.{PutFault}
use Rattle.map_io.specs.declared.sink.PutFault.TheVariants as put
use Rattle.map_io.specs.Fetched.{IsFetched}
use Rattle.map_defs.specs.Kind.{Kind}
use Rattle.map_defs.specs.Values.{Hook}
use Rattle.machine_defs.specs.State.{State, empty_state}
use Rattle.map_defs.specs.Off.{mesh_of}
use Rattle.machine_defs.specs.Loading.{IsLoaded, refusal_line}
use Rattle.machine_defs.specs.Outside.{Files, Appended}
use Rattle.machine_defs.specs.Program.{Command, CommandAnswer, IsFile, too_long, file_limit}
use Rattle.map_run.specs.declared.command.RunScript.{RunScript}
use Rattle.map_run.specs.declared.files.Texts.{Texts}
use Rattle.map_run.specs.Commands.{mesh_name, run_of}
use Rattle.map_run.specs.Ending.{IsLast, status_of}
use Rattle.map_run.specs.Going.{IsObeyed}

-- the bytes of a mesh, if there is one
abbrev pub mesh_bytes : Option (Vec ℕ Global) → Option (List ℕ)
mesh_bytes None = None
mesh_bytes (Some bytes) = Some bytes.items

abbrev pub IsShort : Option (List ℕ) → Type 0
IsShort None = Unit {0}
IsShort (Some bytes) = length bytes ≤ file_limit

abbrev pub AreShort : Texts → Type 0
AreShort texts = IsShort (mesh_bytes texts.mesh)

-- the name may be asked for, if there is one
abbrev pub MayAsk : (List ℕ → Type 0) → Option (List ℕ) → Type 0
MayAsk may_ask None = Unit {0}
MayAsk may_ask (Some name) = may_ask name

-- the answer to the fetch of a mesh that may be named
abbrev pub IsMeshFetched : Option Files → Option (List ℕ) → Result (Option (Vec ℕ Global)) FetchFault → Type 0
IsMeshFetched holds None result = result ≡ Ok None
IsMeshFetched holds (Some name) (Ok None) = ⊥
IsMeshFetched holds (Some name) (Ok (Some bytes)) = IsFetched holds name file_limit (Ok bytes)
IsMeshFetched holds (Some name) (Err fault) = IsFetched holds name file_limit (Err fault)

-- the mesh of this name
abbrev pub IsMeshOf : Files → Option (List ℕ) → Option (List ℕ) → Type 0
IsMeshOf files None bytes = bytes ≡ None
IsMeshOf files (Some name) None = ⊥
IsMeshOf files (Some name) (Some bytes) = IsFile files name bytes

-- A file that a command needs was not fetched: one that is too long decides what the command answers.
abbrev pub IsUnfetched : Files → Command → FetchFault → Type 0
IsUnfetched files command (fetch.TooLong seen) = (hook : Hook) → CommandAnswer hook files command too_long 4
IsUnfetched files command fetch.Failed = Unit {0}
IsUnfetched files command fetch.NoMemory = Unit {0}

-- the files of a script and its mesh; or the first one that is needed was not fetched
abbrev pub AreFetched : Files → RunScript → Result Texts FetchFault → Type 0
AreFetched files command (Ok texts) = IsMeshOf files (mesh_name command.mesh) (mesh_bytes texts.mesh) × IsFile files command.script.now texts.script.items
AreFetched files command (Err fault) = IsUnfetched files (run_of command) fault

-- the state that a script starts from
abbrev pub IsFirst : Kind → ℕ → Option (List ℕ) → State → Type 0
IsFirst k n None start = start ≡ empty_state k n
IsFirst k n (Some bytes) start = IsLoaded k n bytes start

-- How the program ends with this text and status, once its files are fetched: the mesh is refused, there is no memory for its
-- map, or the script was obeyed, as far as it went.
pub data TextsEnd (hook : Hook) (k : Kind) (n : ℕ) (mesh : Option (List ℕ)) (script : List ℕ) (rose : Type 0) (status : ℕ) (piece : List ℕ) : Type 0 where
  refused : (bytes line : List ℕ) → mesh ≡ Some bytes → refusal_line k (mesh_of bytes) ≡ Some line → IsLast rose line 3 status piece
      → TextsEnd hook k n mesh script rose status piece
  starved : status ≡ 7 → piece ≡ [] → TextsEnd hook k n mesh script rose status piece
  obeyed : (start : State) (result : Result Bool PutFault) → IsFirst k n mesh start → status ≡ status_of result → IsObeyed hook start script result piece
      → (result ≡ Err put.Failed → rose) → TextsEnd hook k n mesh script rose status piece

pub record EndsTexts (hook : Hook) (k : Kind) (n : ℕ) (mesh : Option (List ℕ)) (script : List ℕ) (rose : Type 0) (before after : Option (List ℕ)) (status : ℕ) : Type 0 where
  pub piece : List ℕ
  pub appended : Appended before after piece
  pub end : TextsEnd hook k n mesh script rose status piece
