-- The program: the text and the status for its words and files. Source: this project's.
use Rattle.std.specs.Prelude.{ℕ, ◌≡◌, ◌≢◌, ◌<◌, ◌≤◌, ◌⊎◌, List, [], ◌∷◌, ◌++◌, length, Option, Some, None, codes}
use Rattle.std.specs.Fmt.{decimal}
use Rattle.map_defs.specs.Kind.{Kind, letter}
use Rattle.map_defs.specs.Values.{Hook}
use Rattle.machine_defs.specs.State.{State, empty_state}
use Rattle.machine_defs.specs.Text.{Reply, ended, replies_text, any_refused}
pub use Rattle.machine_defs.specs.Text.{run_status}
use Rattle.machine_defs.specs.Script.{lines_of}
use Rattle.machine_defs.specs.Machine.{Run}
use Rattle.map_defs.specs.Off.{mesh_of}
use Rattle.machine_defs.specs.Loading.{IsLoaded, refusal_line}
use Rattle.machine_defs.specs.Outside.{Files, held, IsFront}
use Rattle.machine_defs.specs.Auditing.{AuditAnswer}
use Rattle.machine_defs.specs.Halving.{HalfAnswer}
use Rattle.machine_defs.specs.Soaking.{SoakAnswer}

-- a command: run a script over a map of a kind and a dimension, the empty one or that of a mesh in a file; or audit the
-- listing in a file; or tell the half, or the double, of the listing in a file; or obey the lines for so many squares that a
-- generator makes from a number
pub data Command : Type 0 where
  RunScript : Kind → ℕ → Option (List ℕ) → List ℕ → Command
  Audit : List ℕ → Command
  Half : List ℕ → Command
  Soak : Kind → ℕ → ℕ → Command

-- the word for the empty map
abbrev pub no_mesh : List ℕ
no_mesh = codes "-"

-- the commands that the program offers: scripts over maps of both kinds of dimension 2, 3 or 4, audits, halves, and up to
-- 100,000 squares from a number below 2^31
abbrev pub IsOffered : Command → Type 0
IsOffered (RunScript kind dim mesh script) = (2 ≤ dim) × (dim ≤ 4) × (mesh ≢ Some no_mesh)
IsOffered (Audit listing) = Unit {0}
IsOffered (Half listing) = Unit {0}
IsOffered (Soak kind seed count) = (seed < 2147483648) × (1 ≤ count) × (count ≤ 100000)

abbrev pub mesh_word : Option (List ℕ) → List ℕ
mesh_word None = no_mesh
mesh_word (Some name) = name

-- the words of a command
abbrev pub words_for : Command → List (List ℕ)
words_for (RunScript kind dim mesh script) = codes "run" ∷ (letter kind ∷ []) ∷ decimal dim ∷ mesh_word mesh ∷ script ∷ []
words_for (Audit listing) = codes "audit" ∷ listing ∷ []
words_for (Half listing) = codes "half" ∷ listing ∷ []
words_for (Soak kind seed count) = codes "soak" ∷ (letter kind ∷ []) ∷ decimal seed ∷ decimal count ∷ []

-- the words tell this command
abbrev pub TellsCommand : List (List ℕ) → Command → Type 0
TellsCommand words command = IsOffered command × (words ≡ words_for command)

abbrev pub IsNoCommand : List (List ℕ) → Type 0
IsNoCommand words = (command : Command) → TellsCommand words command → ⊥

-- the names of the files that a command needs
abbrev pub IsNeededBy : Command → List ℕ → Type 0
IsNeededBy (RunScript kind dim mesh script) name = (mesh ≡ Some name) ⊎ (name ≡ script)
IsNeededBy (Audit listing) name = name ≡ listing
IsNeededBy (Half listing) name = name ≡ listing
IsNeededBy (Soak kind seed count) name = ⊥

abbrev pub NeedsFile : List (List ℕ) → List ℕ → Type 0
NeedsFile words name = (command : Command) × TellsCommand words command × IsNeededBy command name

-- no fetched file is longer
abbrev pub file_limit : ℕ
file_limit = 16777216

abbrev pub usage : List ℕ
usage = ended (codes "usage")

abbrev pub cannot_read : List ℕ
cannot_read = ended (codes "cannot read")

abbrev pub too_long : List ℕ
too_long = ended (codes "too long")

-- the replies to all lines of a script, and the status
abbrev pub ScriptAnswer : Hook → State → List ℕ → List ℕ → ℕ → Type 0
ScriptAnswer hook start script text status = (replies : List Reply) × (new : State) × Run hook start (lines_of script) replies new
    × (text ≡ replies_text replies) × (status ≡ run_status (any_refused replies))

-- A needed file that is not held, or is too long, is answered by one line.
abbrev pub FileAnswer : Option (List ℕ) → (List ℕ → List ℕ → ℕ → Type 0) → List ℕ → ℕ → Type 0
FileAnswer None read text status = (text ≡ cannot_read) × (status ≡ 5)
FileAnswer (Some bytes) read text status =
    ((file_limit < length bytes) × (text ≡ too_long) × (status ≡ 4)) ⊎ ((length bytes ≤ file_limit) × read bytes text status)

-- A mesh that is refused is answered by one line; else the script is obeyed from its map.
abbrev pub MeshAnswer : Hook → Kind → ℕ → List ℕ → List ℕ → List ℕ → ℕ → Type 0
MeshAnswer hook kind dim mesh script text status =
    ((refusal_line kind (mesh_of mesh) ≡ Some text) × (status ≡ 3))
    ⊎ ((start : State) × IsLoaded kind dim mesh start × ScriptAnswer hook start script text status)

-- Both files of a script and its mesh are needed before the mesh is read.
abbrev pub CommandAnswer : Hook → Files → Command → List ℕ → ℕ → Type 0
CommandAnswer hook files (RunScript kind dim None script) = FileAnswer (held files script) (ScriptAnswer hook (empty_state kind dim))
CommandAnswer hook files (RunScript kind dim (Some name) script) =
    FileAnswer (held files name) (λ mesh. FileAnswer (held files script) (MeshAnswer hook kind dim mesh))
CommandAnswer hook files (Audit listing) = FileAnswer (held files listing) AuditAnswer
CommandAnswer hook files (Half listing) = FileAnswer (held files listing) HalfAnswer
CommandAnswer hook files (Soak kind seed count) = SoakAnswer hook kind seed count

-- The program's whole text and its status.
pub data ProgramAnswer (hook : Hook) (words : List (List ℕ)) (files : Files) (text : List ℕ) (status : ℕ) : Type 0 where
  untold : IsNoCommand words → text ≡ usage → status ≡ 2 → ProgramAnswer hook words files text status
  told : (command : Command) → TellsCommand words command → CommandAnswer hook files command text status → ProgramAnswer hook words files text status

-- The machine can obey a front of the lines so that its text begins so.
pub record Begins (hook : Hook) (start : State) (lines : List (List ℕ)) (front : List ℕ) : Type 0 where
  pub done : List (List ℕ)
  pub left : List (List ℕ)
  pub all : lines ≡ done ++ left
  pub replies : List Reply
  pub new : State
  pub run : Run hook start done replies new
  pub begins : IsFront front (replies_text replies)

-- the file of this name, which is not too long
abbrev pub IsFile : Files → List ℕ → List ℕ → Type 0
IsFile files name bytes = (held files name ≡ Some bytes) × (length bytes ≤ file_limit)

-- the state that the script of a command starts from
abbrev pub StartsFrom : Files → Kind → ℕ → Option (List ℕ) → State → Type 0
StartsFrom files kind dim None start = start ≡ empty_state kind dim
StartsFrom files kind dim (Some name) start = (mesh : List ℕ) × IsFile files name mesh × IsLoaded kind dim mesh start

-- The replies to a script begin so. An audit, a half, or a soak, that has no whole text yet has written nothing.
abbrev pub CommandBegins : Hook → Files → Command → List ℕ → Type 0
CommandBegins hook files (RunScript kind dim mesh script) front =
    (start : State) × (bytes : List ℕ) × StartsFrom files kind dim mesh start × IsFile files script bytes × Begins hook start (lines_of bytes) front
CommandBegins hook files (Audit listing) front = front ≡ []
CommandBegins hook files (Half listing) front = front ≡ []
CommandBegins hook files (Soak kind seed count) front = front ≡ []

-- The program's text begins so: as a front of a whole text, or as a front of what the machine answers to the first lines.
pub data Starts (hook : Hook) (words : List (List ℕ)) (files : Files) (front : List ℕ) : Type 0 where
  whole : (text : List ℕ) (status : ℕ) → ProgramAnswer hook words files text status → IsFront front text → Starts hook words files front
  lines : (command : Command) → TellsCommand words command → CommandBegins hook files command front → Starts hook words files front

-- nothing, or whole lines
abbrev pub EndsLine : List ℕ → Type 0
EndsLine text = (text ≡ []) ⊎ ((front : List ℕ) × (text ≡ front ++ 10 ∷ []))

-- What a call wrote until it was cut short: a front of the program's text, or of the line that says that a file cannot be
-- read, if the shelf had a fault.
abbrev pub WasCut : Hook → List (List ℕ) → Files → Type 0 → List ℕ → Type 0
WasCut hook words files shelf_rose text = Starts hook words files text ⊎ (shelf_rose × IsFront text cannot_read)

-- How a call ends that wrote this text and answers this status, where the counts of faults of the shelf and of the sink
-- rose or not.
pub data Outcome (hook : Hook) (words : List (List ℕ)) (files : Files) (shelf_rose sink_rose : Type 0) (status : ℕ) (text : List ℕ) : Type 0 where
  answered : status ≤ 4 → ProgramAnswer hook words files text status → Outcome hook words files shelf_rose sink_rose status text
  unread : status ≡ 5 → shelf_rose → text ≡ cannot_read → Outcome hook words files shelf_rose sink_rose status text
  unwritten : status ≡ 6 → sink_rose → WasCut hook words files shelf_rose text → Outcome hook words files shelf_rose sink_rose status text
  no_memory : status ≡ 7 → EndsLine text → WasCut hook words files shelf_rose text → Outcome hook words files shelf_rose sink_rose status text

-- The files are those that the shelf tells; where the words need no file, they are any.
abbrev pub Known : List (List ℕ) → Option Files → Files → Type 0
Known words holds files = (holds ≡ Some files) ⊎ ((name : List ℕ) → NeedsFile words name → ⊥)
