-- One program has one text and one status.
use Rattle.std.proofs.Common.{◌≡◌, ◌≢◌, ℕ, ◌≤◌, List, ◌++◌, length, Option, Some, None, refl, sym, ap, ◌∙◌, subst, append_assoc, inl, inr, arith}
use Rattle.std.proofs.lemmas.Fmt.{decimal_injective}
use Rattle.std.proofs.lemmas.Grind.{flat_map-append}
use Rattle.map_defs.specs.Kind.{Kind, alpha, beta, letter}
use Rattle.map_defs.specs.Values.{Hook}
use Rattle.machine_defs.specs.State.{State, empty_state}
use Rattle.machine_defs.specs.Kept.{IsLawfulState}
use Rattle.machine_defs.specs.Script.{lines_of}
use Rattle.machine_defs.specs.Text.{Reply, reply_text, replies_text, any_refused}
use Rattle.machine_defs.specs.Machine.{Run}
use Rattle.machine_defs.specs.Outside.{Files, held, IsFront}
use Rattle.map_defs.specs.Off.{Mesh, mesh_of}
use Rattle.machine_defs.specs.Loading.{IsLoaded, IsMeshContent, first_state, refusal_line}
use Rattle.machine_defs.specs.Program.{Command, IsOffered, RunScript, Audit, Half, Soak, TellsCommand, no_mesh, mesh_word, FileAnswer, ScriptAnswer, MeshAnswer, CommandAnswer, StartsFrom, ProgramAnswer, untold, told, Begins, Starts, whole, lines, file_limit, run_status}
use Rattle.machine_defs.specs.Auditing.{AuditAnswer}
use Rattle.machine_defs.specs.Halving.{HalfAnswer}
use Rattle.machine_laws.proofs.Audits.{audit-one}
use Rattle.machine_laws.proofs.HalfAnswers.{half-answer-one}
use Rattle.machine_laws.proofs.Soaks.{soak-one}
use Rattle.machine_laws.proofs.Runs.{run-one, run-front}
use Rattle.machine_laws.proofs.Begun.{empty-kept, first-kept}
use Rattle.loading_laws.proofs.MeshOne.{mesh-content-one}
use Rattle.loading_laws.proofs.MeshContent.{maps-kept}

-- a word stands for one choice of a mesh
mesh-one : (mesh mesh' : Option (List ℕ)) → mesh ≢ Some no_mesh → mesh' ≢ Some no_mesh → mesh_word mesh ≡ mesh_word mesh' → mesh ≡ mesh'
mesh-one None None named named' e = refl
mesh-one None (Some name) named named' e = absurd (named' (ap (λ (x : List ℕ). Some x) (sym e)))
mesh-one (Some name) None named named' e = absurd (named (ap (λ (x : List ℕ). Some x) e))
mesh-one (Some name) (Some name') named named' e = ap (λ (x : List ℕ). Some x) e

-- a letter is that of one kind
letter-one : (k k' : Kind) → letter k ≡ letter k' → k ≡ k'
letter-one alpha alpha e = refl
letter-one alpha beta e = absurd (omega (arith, e))
letter-one beta alpha e = absurd (omega (arith, e))
letter-one beta beta e = refl

-- words tell one command
told-one : (words : List (List ℕ)) (c c' : Command) → TellsCommand words c → TellsCommand words c' → c ≡ c'
told-one words (RunScript k n mesh script) (RunScript k' n' mesh' script') t t' =
    let same = sym t.1 ∙ t'.1 in
    let kinds : k ≡ k' = letter-one k k' (cc (same)) in
    let dims : n ≡ n' = decimal_injective n n' (omega (arith, t.0.1)) (omega (arith, t'.0.1)) (cc (same)) in
    let meshes : mesh ≡ mesh' = mesh-one mesh mesh' t.0.2 t'.0.2 (cc (same)) in
    let scripts : script ≡ script' = cc in
    cc
told-one words (RunScript k n mesh script) (Audit listing) t t' = absurd (let same = ap length (sym t.1 ∙ t'.1) in omega arith)
told-one words (Audit listing) (RunScript k n mesh script) t t' = absurd (let same = ap length (sym t.1 ∙ t'.1) in omega arith)
told-one words (Audit listing) (Audit listing') t t' = let same = sym t.1 ∙ t'.1 in cc
told-one words (Half listing) (Half listing') t t' = let same = sym t.1 ∙ t'.1 in cc
told-one words (Audit listing) (Half listing') t t' = absurd (let same = sym t.1 ∙ t'.1 in cc)
told-one words (Half listing) (Audit listing') t t' = absurd (let same = sym t.1 ∙ t'.1 in cc)
told-one words (RunScript k n mesh script) (Half listing) t t' = absurd (let same = ap length (sym t.1 ∙ t'.1) in omega arith)
told-one words (Half listing) (RunScript k n mesh script) t t' = absurd (let same = ap length (sym t.1 ∙ t'.1) in omega arith)
told-one words (Half listing) (Soak k seed count) t t' = absurd (let same = ap length (sym t.1 ∙ t'.1) in omega arith)
told-one words (Soak k seed count) (Half listing) t t' = absurd (let same = ap length (sym t.1 ∙ t'.1) in omega arith)
told-one words (RunScript k n mesh script) (Soak k' seed count) t t' = absurd (let same = ap length (sym t.1 ∙ t'.1) in omega arith)
told-one words (Soak k seed count) (RunScript k' n mesh script) t t' = absurd (let same = ap length (sym t.1 ∙ t'.1) in omega arith)
told-one words (Audit listing) (Soak k seed count) t t' = absurd (let same = ap length (sym t.1 ∙ t'.1) in omega arith)
told-one words (Soak k seed count) (Audit listing) t t' = absurd (let same = ap length (sym t.1 ∙ t'.1) in omega arith)
told-one words (Soak k seed count) (Soak k' seed' count') t t' =
    let same = sym t.1 ∙ t'.1 in
    let kinds : k ≡ k' = letter-one k k' (cc (same)) in
    let seeds : seed ≡ seed' = decimal_injective seed seed' (omega (arith, t.0.0)) (omega (arith, t'.0.0)) (cc (same)) in
    let counts : count ≡ count' = decimal_injective count count' (omega (arith, t.0.2)) (omega (arith, t'.0.2)) (cc (same)) in
    cc

script-one : (hook : Hook) (start : State) (script one other : List ℕ) (status status' : ℕ) → IsLawfulState start → ScriptAnswer hook start script one status → ScriptAnswer hook start script other status' → (one ≡ other) × (status ≡ status')
script-one hook start script one other status status' kept a b =
    let same = run-one hook start (lines_of script) a.0 b.0 a.1 b.1 kept a.2 b.2 in
    (a.3 ∙ ap replies_text same.0 ∙ sym b.3, a.4 ∙ ap (λ (replies : List Reply). run_status (any_refused replies)) same.0 ∙ sym b.4)

-- a file that is read in one way is answered in one way
file-one : (o : Option (List ℕ)) (read : List ℕ → List ℕ → ℕ → Type 0) (one other : List ℕ) (status status' : ℕ)
    → ((bytes : List ℕ) → read bytes one status → read bytes other status' → (one ≡ other) × (status ≡ status'))
    → FileAnswer o read one status → FileAnswer o read other status' → (one ≡ other) × (status ≡ status')
file-one None read one other status status' same a b = (a.0 ∙ sym b.0, a.1 ∙ sym b.1)
file-one (Some bytes) read one other status status' same (inl a) (inl b) = (a.1 ∙ sym b.1, a.2 ∙ sym b.2)
file-one (Some bytes) read one other status status' same (inl a) (inr b) = absurd (let long = a.0 in let short = b.0 in omega arith)
file-one (Some bytes) read one other status status' same (inr a) (inl b) = absurd (let short = a.0 in let long = b.0 in omega arith)
file-one (Some bytes) read one other status status' same (inr a) (inr b) = same bytes a.1 b.1

-- a mesh that is loaded is not refused
not-refused : (k : Kind) (n : ℕ) (mesh : List ℕ) (start : State) → IsLoaded k n mesh start → refusal_line k (mesh_of mesh) ≡ None
not-refused k n mesh start l = rw (l.read, l.sound) refl

-- a mesh leads to one state
loaded-one : (k : Kind) (n : ℕ) (mesh : List ℕ) (start start' : State) → IsLoaded k n mesh start → IsLoaded k n mesh start' → start ≡ start'
loaded-one k n mesh start start' l l' =
    let meshes : l.mesh ≡ l'.mesh = (let same = sym l.read ∙ l'.read in cc) in
    l.begun ∙ ap first_state (mesh-content-one k n l'.mesh l.content l'.content (subst (λ (m : Mesh). IsMeshContent k n m l.content) meshes l.is) l'.is) ∙ sym l'.begun

pub loaded-kept : (k : Kind) (n : ℕ) (mesh : List ℕ) (start : State) → 2 ≤ n → IsLoaded k n mesh start → IsLawfulState start
loaded-kept k n mesh start flat l = subst IsLawfulState (sym l.begun) (first-kept l.content (maps-kept k n l.mesh l.content flat l.sound l.is))

mesh-answer-one : (hook : Hook) (k : Kind) (n : ℕ) (mesh script one other : List ℕ) (status status' : ℕ) → 2 ≤ n
    → MeshAnswer hook k n mesh script one status → MeshAnswer hook k n mesh script other status' → (one ≡ other) × (status ≡ status')
mesh-answer-one hook k n mesh script one other status status' flat (inl a) (inl b) = (let same = sym a.0 ∙ b.0 in cc, a.1 ∙ sym b.1)
mesh-answer-one hook k n mesh script one other status status' flat (inl a) (inr b) = absurd (let none = not-refused k n mesh b.0 b.1 in let some = a.0 in cc)
mesh-answer-one hook k n mesh script one other status status' flat (inr a) (inl b) = absurd (let none = not-refused k n mesh a.0 a.1 in let some = b.0 in cc)
mesh-answer-one hook k n mesh script one other status status' flat (inr a) (inr b) =
    script-one hook b.0 script one other status status' (loaded-kept k n mesh b.0 flat b.1)
    (subst (λ (s : State). ScriptAnswer hook s script one status) (loaded-one k n mesh a.0 b.0 a.1 b.1) a.2) b.2

command-one : (hook : Hook) (files : Files) (c : Command) (one other : List ℕ) (status status' : ℕ) → IsOffered c → CommandAnswer hook files c one status → CommandAnswer hook files c other status' → (one ≡ other) × (status ≡ status')
command-one hook files (RunScript k n None script) one other status status' offered a b =
    file-one (held files script) (ScriptAnswer hook (empty_state k n)) one other status status'
    (λ bytes x y. script-one hook (empty_state k n) bytes one other status status' (empty-kept k n offered.0) x y) a b
command-one hook files (RunScript k n (Some name) script) one other status status' offered a b =
    file-one (held files name) (λ mesh. FileAnswer (held files script) (MeshAnswer hook k n mesh)) one other status status'
    (λ mesh x y. file-one (held files script) (MeshAnswer hook k n mesh) one other status status'
    (λ bytes v w. mesh-answer-one hook k n mesh bytes one other status status' offered.0 v w) x y) a b
command-one hook files (Audit listing) one other status status' offered a b =
    file-one (held files listing) AuditAnswer one other status status' (λ bytes x y. audit-one bytes one other status status' x y) a b
command-one hook files (Half listing) one other status status' offered a b =
    file-one (held files listing) HalfAnswer one other status status' (λ bytes x y. half-answer-one bytes one other status status' x y) a b
command-one hook files (Soak k seed count) one other status status' offered a b = soak-one hook k seed count one other status status' a b

pub answer-one : (hook : Hook) (words : List (List ℕ)) (files : Files) (one other : List ℕ) (status status' : ℕ) → ProgramAnswer hook words files one status → ProgramAnswer hook words files other status' → (one ≡ other) × (status ≡ status')
answer-one hook words files one other status status' (untold n t s) (untold n' t' s') = (t ∙ sym t', s ∙ sym s')
answer-one hook words files one other status status' (untold n t s) (told c tells a) = absurd (n c tells)
answer-one hook words files one other status status' (told c tells a) (untold n t s) = absurd (n c tells)
answer-one hook words files one other status status' (told c tells a) (told c' tells' a') =
    command-one hook files c' one other status status' tells'.0 (subst (λ (d : Command). CommandAnswer hook files d one status) (told-one words c c' tells tells') a) a'

front-of-all : (hook : Hook) (start : State) (script front text : List ℕ) (status : ℕ) → IsLawfulState start → Begins hook start (lines_of script) front → ScriptAnswer hook start script text status → IsFront front text
front-of-all hook start script front text status kept b a =
    let more = run-front hook start b.done b.left b.replies a.0 b.new a.1 kept b.run (subst (λ (ls : List (List ℕ)). Run hook start ls a.0 a.1) b.all a.2) in (
      b.begins.0 ++ replies_text more.0,
      a.3 ∙ ap replies_text more.1 ∙ flat_map-append reply_text b.replies more.0 ∙ ap (λ (t : List ℕ). t ++ replies_text more.0) b.begins.1 ∙ append_assoc front b.begins.0 (replies_text more.0),
    )

-- where the file is held, it was read
file-read : (o : Option (List ℕ)) (read : List ℕ → List ℕ → ℕ → Type 0) (bytes text : List ℕ) (status : ℕ) → o ≡ Some bytes → length bytes ≤ file_limit → FileAnswer o read text status → read bytes text status
file-read None read bytes text status is short a = absurd (cc)
file-read (Some held') read bytes text status is short (inl a) = absurd (let same : held' ≡ bytes = cc in let e = ap length same in let long = a.0 in omega arith)
file-read (Some held') read bytes text status is short (inr a) = let same : held' ≡ bytes = cc in subst (λ (bs : List ℕ). read bs text status) same a.1

-- the script of a command was obeyed from the state that it starts from
command-run : (hook : Hook) (files : Files) (k : Kind) (n : ℕ) (mesh : Option (List ℕ)) (script : List ℕ) (start : State) (bytes text : List ℕ) (status : ℕ)
    → StartsFrom files k n mesh start → held files script ≡ Some bytes → length bytes ≤ file_limit → CommandAnswer hook files (RunScript k n mesh script) text status → ScriptAnswer hook start bytes text status
command-run hook files k n None script start bytes text status begun is short a =
    subst (λ (s : State). ScriptAnswer hook s bytes text status) (sym begun) (file-read (held files script) (ScriptAnswer hook (empty_state k n)) bytes text status is short a)
command-run hook files k n (Some name) script start bytes text status begun is short a =
    go (file-read (held files script) (MeshAnswer hook k n begun.0) bytes text status is short
    (file-read (held files name) (λ mesh. FileAnswer (held files script) (MeshAnswer hook k n mesh)) begun.0 text status begun.1.0 begun.1.1 a))
  where
    go : MeshAnswer hook k n begun.0 bytes text status → ScriptAnswer hook start bytes text status
    go (inl refused) = absurd (let none = not-refused k n begun.0 start begun.2 in let some = refused.0 in cc)
    go (inr x) = subst (λ (s : State). ScriptAnswer hook s bytes text status) (loaded-one k n begun.0 x.0 start x.1 begun.2) x.2

starts-kept : (files : Files) (k : Kind) (n : ℕ) (mesh : Option (List ℕ)) (start : State) → 2 ≤ n → StartsFrom files k n mesh start → IsLawfulState start
starts-kept files k n None start flat begun = subst IsLawfulState (sym begun) (empty-kept k n flat)
starts-kept files k n (Some name) start flat begun = loaded-kept k n begun.0 start flat begun.2

pub front-one : (hook : Hook) (words : List (List ℕ)) (files : Files) (front text : List ℕ) (status : ℕ) → Starts hook words files front → ProgramAnswer hook words files text status → IsFront front text
front-one hook words files front text status (whole text' status' a f) b = subst (IsFront front) (answer-one hook words files text' text status' status a b).0 f
front-one hook words files front text status (lines c tells f) (untold n t s) = absurd (n c tells)
front-one hook words files front text status (lines (RunScript k n mesh script) tells f) (told c' tells' a) =
    front-of-all hook f.0 f.1 front text status (starts-kept files k n mesh f.0 tells.0.0 f.2) f.4
    (command-run hook files k n mesh script f.0 f.1 text status f.2 f.3.0 f.3.1
    (subst (λ (d : Command). CommandAnswer hook files d text status) (told-one words c' (RunScript k n mesh script) tells' tells) a))
front-one hook words files front text status (lines (Audit listing) tells f) (told c' tells' a) = (text, rw f refl)
front-one hook words files front text status (lines (Half listing) tells f) (told c' tells' a) = (text, rw f refl)
front-one hook words files front text status (lines (Soak k seed count) tells f) (told c' tells' a) = (text, rw f refl)
