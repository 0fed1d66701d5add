-- What the program's commands stand for.
use Rattle.std.specs.Prelude.{ℕ, ◌≡◌, ◌≢◌, ◌≤◌, List, [], ◌∷◌, Option, Some, None}
use Rattle.std.specs.Borrow.{Bor}
use Rattle.std.specs.Fmt.{decimal}
use Rattle.map_defs.specs.Kind.{Kind, alpha, beta, letter}
use Rattle.machine_defs.specs.Program as told
use Rattle.map_run.specs.declared.command.MapKind.{MapKind}
use Rattle.map_run.specs.declared.command.MapKind.TheVariants.{Generalized, Combinatorial}
use Rattle.map_run.specs.declared.command.Dimension.{Dimension}
use Rattle.map_run.specs.declared.command.Dimension.TheVariants.{Two, Three, Four}
use Rattle.map_run.specs.declared.command.RunScript.{RunScript}
use Rattle.map_run.specs.declared.command.SoakSquares.{SoakSquares}
use Rattle.map_run.specs.declared.command.Command.{Command}
use Rattle.map_run.specs.declared.command.Command.TheVariants as command

abbrev pub kind_of : MapKind → Kind
kind_of Generalized = alpha
kind_of Combinatorial = beta

-- the word is the letter of the kind; or it is that of none
abbrev pub IsLettered : Option MapKind → List ℕ → Type 0
IsLettered (Some kind) word = word ≡ letter (kind_of kind) ∷ []
IsLettered None word = (k : Kind) → word ≡ letter k ∷ [] → ⊥

abbrev pub number : Dimension → ℕ
number Two = 2
number Three = 3
number Four = 4

-- the word writes the dimension; or it writes none that is offered
abbrev pub IsNumbered : Option Dimension → List ℕ → Type 0
IsNumbered (Some dimension) word = word ≡ decimal (number dimension)
IsNumbered None word = (n : ℕ) → 2 ≤ n → n ≤ 4 → word ≡ decimal n → ⊥

-- the word writes a number that is not below and not above these; or it writes none
abbrev pub IsBetween : ℕ → ℕ → Option ℕ → List ℕ → Type 0
IsBetween low high (Some n) word = (low ≤ n) × (n ≤ high) × (word ≡ decimal n)
IsBetween low high None word = (n : ℕ) → low ≤ n → n ≤ high → word ≡ decimal n → ⊥

-- the name of a mesh, if there is one
abbrev pub mesh_name : Option (Bor (List ℕ)) → Option (List ℕ)
mesh_name None = None
mesh_name (Some name) = Some name.now

-- the word stands for this choice of a mesh
abbrev pub IsMeshNamed : Option (Bor (List ℕ)) → List ℕ → Type 0
IsMeshNamed mesh word = (told.mesh_word (mesh_name mesh) ≡ word) × (mesh_name mesh ≢ Some told.no_mesh)

abbrev pub run_of : RunScript → told.Command
run_of command = told.RunScript (kind_of command.kind) (number command.dimension) (mesh_name command.mesh) command.script.now

abbrev pub soak_of : SoakSquares → told.Command
soak_of soak = told.Soak (kind_of soak.kind) soak.seed soak.count

abbrev pub command_of : Command → told.Command
command_of (command.Run run) = run_of run
command_of (command.Audit listing) = told.Audit listing.now
command_of (command.Half listing) = told.Half listing.now
command_of (command.Soak soak) = soak_of soak
