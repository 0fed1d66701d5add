-- The program has a text for its words and files, which begins with nothing.
use Rattle.std.proofs.Common.{◌≡◌, ℕ, ◌≤◌, List, [], length, Option, Some, None, Result, Ok, Err, refl, sym, ap, subst, inl, inr}
use Rattle.std.proofs.lemmas.Bool.{cases_lt}
use Rattle.map_defs.specs.Kind.{Kind}
use Rattle.map_defs.specs.Values.{Hook}
use Rattle.machine_defs.specs.Outside.{Files, held}
use Rattle.machine_defs.specs.State.{State, empty_state}
use Rattle.machine_defs.specs.Script.{lines_of}
use Rattle.map_defs.specs.Off.{Mesh, mesh_of}
use Rattle.map_defs.specs.Off as off
use Rattle.map_defs.specs.MeshMap.{MapFault, mesh_fault}
use Rattle.machine_defs.specs.Loading.{IsLoaded, first_state, refusal_line, map_fault_line}
use Rattle.machine_defs.specs.Program.{RunScript, TellsCommand, told, ScriptAnswer, FileAnswer, MeshAnswer, CommandAnswer, IsFile, Begins, Starts, whole, lines, file_limit, cannot_read, too_long}
use Rattle.loading_laws.proofs.MeshContent.{has-map}
use Rattle.text_lines.proofs.WritingFacts.{IsFront-nothing}

-- a mesh that is not refused leads to a state
loaded-exists : (k : Kind) (n : ℕ) (bytes : List ℕ) → 2 ≤ n → refusal_line k (mesh_of bytes) ≡ None → (start : State) × IsLoaded k n bytes start
loaded-exists k n bytes flat none = go (mesh_of bytes) refl
  where
    sound : (mesh : Mesh) (o : Option MapFault) → mesh_of bytes ≡ Ok mesh → mesh_fault k mesh ≡ o → mesh_fault k mesh ≡ None
    sound mesh None read is = is
    sound mesh (Some fault) read is = absurd (let line : refusal_line k (mesh_of bytes) ≡ Some (map_fault_line fault) = rw (read, is) refl in cc)

    go : (r : Result Mesh off.TextFault) → mesh_of bytes ≡ r → (start : State) × IsLoaded k n bytes start
    go (Ok mesh) read =
        let exists = has-map k n mesh flat (sound mesh (mesh_fault k mesh) read refl) in
        (first_state exists.0, record { mesh = mesh; read = read; sound = sound mesh (mesh_fault k mesh) read refl; content = exists.0; is = exists.1; begun = refl })
    go (Err fault) read = absurd (let line = ap (refusal_line k) read in cc)

-- no line is obeyed yet
Begins-nothing : (hook : Hook) (start : State) (ls : List (List ℕ)) → Begins hook start ls []
Begins-nothing hook start ls = record { done = []; left = ls; all = refl; replies = []; new = start; run = (refl, refl); begins = IsFront-nothing [] }

module _ (hook : Hook) (words : List (List ℕ)) (files : Files) where
  -- a file, by whether it is held and how long it is
  by-file : (name : List ℕ) (read : List ℕ → List ℕ → ℕ → Type 0)
      → ((text : List ℕ) (status : ℕ) → FileAnswer (held files name) read text status → Starts hook words files [])
      → ((bytes : List ℕ) → IsFile files name bytes → Starts hook words files []) → Starts hook words files []
  by-file name read answers reads = go (held files name) refl
    where
      go : (o : Option (List ℕ)) → held files name ≡ o → Starts hook words files []
      go None e = answers cannot_read 5 (subst (λ (o : Option (List ℕ)). FileAnswer o read cannot_read 5) (sym e) (refl, refl))
      go (Some bytes) e = elim (cases_lt file_limit (length bytes)) [
        | inl long ↦ answers too_long 4 (subst (λ (o : Option (List ℕ)). FileAnswer o read too_long 4) (sym e) (inl (long, refl, refl)))
        | inr short ↦ reads bytes (e, short)
      ]

  -- a file that was read is answered as its bytes are
  read-answer : (name bytes : List ℕ) (read : List ℕ → List ℕ → ℕ → Type 0) (text : List ℕ) (status : ℕ) → IsFile files name bytes → read bytes text status → FileAnswer (held files name) read text status
  read-answer name bytes read text status is answer = subst (λ (o : Option (List ℕ)). FileAnswer o read text status) (sym is.0) (inr (is.1, answer))

  module _ (k : Kind) (n : ℕ) (script : List ℕ) where
    answered-by : (mesh : Option (List ℕ)) → TellsCommand words (RunScript k n mesh script) → (text : List ℕ) (status : ℕ) → CommandAnswer hook files (RunScript k n mesh script) text status → Starts hook words files []
    answered-by mesh tells text status answer = whole text status (told (RunScript k n mesh script) tells answer) (IsFront-nothing text)

    -- both files were read
    by-mesh : (name mesh bytes : List ℕ) → TellsCommand words (RunScript k n (Some name) script) → IsFile files name mesh → IsFile files script bytes → Starts hook words files []
    by-mesh name mesh bytes tells is at = go (refusal_line k (mesh_of mesh)) refl
      where
        go : (o : Option (List ℕ)) → refusal_line k (mesh_of mesh) ≡ o → Starts hook words files []
        go (Some line) refused =
            answered-by (Some name) tells line 3
            (read-answer name mesh (λ m. FileAnswer (held files script) (MeshAnswer hook k n m)) line 3 is
            (read-answer script bytes (MeshAnswer hook k n mesh) line 3 at (inl (refused, refl))))
        go None sound =
            let start = loaded-exists k n mesh tells.0.0 sound in
            lines (RunScript k n (Some name) script) tells (start.0, bytes, (mesh, is, start.1), at, Begins-nothing hook start.0 (lines_of bytes))

    pub starts-nothing : (mesh : Option (List ℕ)) → TellsCommand words (RunScript k n mesh script) → Starts hook words files []
    starts-nothing None tells =
        by-file script (ScriptAnswer hook (empty_state k n)) (answered-by None tells)
        (λ bytes is. lines (RunScript k n None script) tells (empty_state k n, bytes, refl, is, Begins-nothing hook (empty_state k n) (lines_of bytes)))
    starts-nothing (Some name) tells =
        by-file name (λ m. FileAnswer (held files script) (MeshAnswer hook k n m)) (answered-by (Some name) tells)
        (λ mesh is. by-file script (MeshAnswer hook k n mesh)
        (λ text status answer. answered-by (Some name) tells text status (read-answer name mesh (λ m. FileAnswer (held files script) (MeshAnswer hook k n m)) text status is answer))
        (λ bytes at. by-mesh name mesh bytes tells is at))
