-- Each program has a text and a status.
use Rattle.std.proofs.Common.{◌≡◌, ℕ, ◌≤◌, List, length, Option, Some, None, Result, Ok, Err, refl, ap, ◌∙◌, inl, inr}
use Rattle.std.specs.Prelude.{option_map}
use Rattle.std.proofs.lemmas.Bool.{cases_lt}
use Rattle.map_defs.specs.Kind.{Kind}
use Rattle.map_defs.specs.Values.{Hook}
use Rattle.map_defs.specs.Off.{Mesh, TextFault, mesh_of}
use Rattle.map_defs.specs.MeshMap.{MapFault, mesh_fault}
use Rattle.machine_defs.specs.State.{State, empty_state}
use Rattle.machine_defs.specs.Kept.{IsLawfulState}
use Rattle.machine_defs.specs.Script.{lines_of}
use Rattle.machine_defs.specs.Text.{replies_text, any_refused}
use Rattle.machine_defs.specs.Loading.{IsLoaded, first_state, refusal_line, text_fault_line, map_fault_line}
use Rattle.machine_defs.specs.Outside.{Files, held}
use Rattle.machine_defs.specs.Program.{Command, RunScript, Audit, Half, Soak, IsOffered, TellsCommand, FileAnswer, ScriptAnswer, MeshAnswer, CommandAnswer, untold, told, Starts, usage, cannot_read, too_long, file_limit, run_status}
use Rattle.loading_laws.proofs.MeshContent.{has-map}
use Rattle.machine_laws.specs.Tracing.{AreTraced}
use Rattle.machine_laws.proofs.Traced.{first-traced}
use Rattle.machine_laws.proofs.Begun.{empty-kept}
use Rattle.machine_laws.proofs.Programs.{loaded-kept, front-one}
use Rattle.answer_laws.specs.Answering.{NotNot, HasAnswer, HasWhole}
use Rattle.answer_laws.proofs.Choosing.{either_way}
use Rattle.machine_defs.specs.Auditing.{AuditAnswer}
use Rattle.machine_defs.specs.Halving.{HalfAnswer}
use Rattle.answer_laws.proofs.AuditFound.{audit_found}
use Rattle.answer_laws.proofs.HalfFound.{half_answer_found}
use Rattle.answer_laws.proofs.SoakFound.{soak_found}
use Rattle.answer_laws.proofs.RunFound.{run_found}

-- there is such a text with its status
abbrev HasText : (List ℕ → ℕ → Type 0) → Type 0
HasText answer = (text : List ℕ) × (status : ℕ) × answer text status

script_found : (hook : Hook) (start : State) (script : List ℕ) → IsLawfulState start → AreTraced start → NotNot (HasText (ScriptAnswer hook start script))
script_found hook start script kept traced never = run_found hook start (lines_of script) kept traced (λ run.
    never (replies_text run.0, run_status (any_refused run.0), (run.0, run.1, run.2, refl, refl)))

-- a file is missing, too long, or read
file_found : (o : Option (List ℕ)) (read : List ℕ → List ℕ → ℕ → Type 0) → ((bytes : List ℕ) → NotNot (HasText (read bytes))) → NotNot (HasText (FileAnswer o read))
file_found None read found = λ never. never (cannot_read, 5, (refl, refl))
file_found (Some bytes) read found = λ never. elim (cases_lt file_limit (length bytes)) [
  | inl long ↦ never (too_long, 4, inl (long, refl, refl))
  | inr short ↦ found bytes (λ answer. never (answer.0, answer.1, inr (short, answer.2)))
]

module _ (hook : Hook) (k : Kind) (n : ℕ) (flat : 2 ≤ n) (text script : List ℕ) where
  sound_found : (mesh : Mesh) → mesh_of text ≡ Ok mesh → (fault : Option MapFault) → mesh_fault k mesh ≡ fault → NotNot (HasText (MeshAnswer hook k n text script))
  sound_found mesh read (Some fault) e = λ never. never (map_fault_line fault, 3, inl (ap (refusal_line k) read ∙ ap (option_map map_fault_line) e, refl))
  sound_found mesh read None e = λ never.
      let map = has-map k n mesh flat e in
      let loaded : IsLoaded k n text (first_state map.0) = record { mesh = mesh; read = read; sound = e; content = map.0; is = map.1; begun = refl } in
      script_found hook (first_state map.0) script (loaded-kept k n text (first_state map.0) flat loaded) (first-traced map.0) (λ answer.
      never (answer.0, answer.1, inr (first_state map.0, loaded, answer.2)))

  read_found : (mesh : Result Mesh TextFault) → mesh_of text ≡ mesh → NotNot (HasText (MeshAnswer hook k n text script))
  read_found (Err fault) e = λ never. never (text_fault_line fault, 3, inl (ap (refusal_line k) e, refl))
  read_found (Ok mesh) e = sound_found mesh e (mesh_fault k mesh) refl

command_found : (hook : Hook) (files : Files) (c : Command) → IsOffered c → NotNot (HasText (CommandAnswer hook files c))
command_found hook files (RunScript k n None script) offered =
    file_found (held files script) (ScriptAnswer hook (empty_state k n)) (λ bytes. script_found hook (empty_state k n) bytes (empty-kept k n offered.0) (first-traced _))
command_found hook files (RunScript k n (Some name) script) offered =
    file_found (held files name) (λ mesh. FileAnswer (held files script) (MeshAnswer hook k n mesh))
    (λ mesh. file_found (held files script) (MeshAnswer hook k n mesh) (λ bytes. read_found hook k n offered.0 mesh bytes (mesh_of mesh) refl))
command_found hook files (Audit listing) offered = file_found (held files listing) AuditAnswer audit_found
command_found hook files (Half listing) offered = file_found (held files listing) HalfAnswer half_answer_found
command_found hook files (Soak kind seed count) offered = soak_found hook kind seed count

pub answer_found : (hook : Hook) (words : List (List ℕ)) (files : Files) → NotNot (HasAnswer hook words files)
answer_found hook words files never = either_way ((c : Command) × TellsCommand words c) (λ known. elim known [
  | inl c ↦ command_found hook files c.0 c.1.0 (λ answer. never (answer.0, answer.1, told c.0 c.1 answer.2))
  | inr none ↦ never (usage, 2, untold (λ c tells. none (c, tells)) refl refl)
])

pub whole_found : (hook : Hook) (words : List (List ℕ)) (files : Files) (front : List ℕ) → Starts hook words files front → NotNot (HasWhole hook words files front)
whole_found hook words files front starts never = answer_found hook words files (λ answer.
    never (answer.0, answer.1, answer.2, front-one hook words files front answer.0 answer.1 starts answer.2))
