-- One run has one list of replies and one state.
use Rattle.std.proofs.Common.{◌≡◌, ℕ, List, [], ◌∷◌, ◌++◌, sym, ap, ◌∙◌, subst, append_assoc}
use Rattle.map_defs.specs.Values.{Hook}
use Rattle.machine_defs.specs.State.{State}
use Rattle.machine_defs.specs.Kept.{IsLawfulState}
use Rattle.machine_defs.specs.Script.{Line, line_of}
use Rattle.map_defs.specs.TextWords.{words_of}
use Rattle.machine_defs.specs.Text.{Reply}
use Rattle.machine_defs.specs.Machine.{Obeys, blank, unread, obeyed, Run, Step}
use Rattle.machine_laws.specs.Tracing.{AreTraced}
use Rattle.machine_laws.proofs.OneStep.{step-one-kept, step-kept, step-traced}

pub obeys-one : (hook : Hook) (s : State) (words : List (List ℕ)) (here here' : List Reply) (new new' : State) → IsLawfulState s → Obeys hook s words here new → Obeys hook s words here' new' → (here ≡ here') × (new ≡ new')
obeys-one hook s words here here' new new' kept (blank n e f) (blank n' e' f') = (e ∙ sym e', f ∙ sym f')
obeys-one hook s words here here' new new' kept (blank n e f) (unread first more are none e' f') = absurd (cc)
obeys-one hook s words here here' new new' kept (blank n e f) (obeyed line reply told step e') = absurd (let t = ap line_of n in cc)
obeys-one hook s words here here' new new' kept (unread first more are none e f) (blank n e' f') = absurd (cc)
obeys-one hook s words here here' new new' kept (unread first more are none e f) (unread first' more' are' none' e' f') = (e ∙ sym e', f ∙ sym f')
obeys-one hook s words here here' new new' kept (unread first more are none e f) (obeyed line reply told step e') = absurd (cc)
obeys-one hook s words here here' new new' kept (obeyed line reply told step e) (blank n e' f') = absurd (let t = ap line_of n in cc)
obeys-one hook s words here here' new new' kept (obeyed line reply told step e) (unread first more are none e' f') = absurd (cc)
obeys-one hook s words here here' new new' kept (obeyed line reply told step e) (obeyed line' reply' told' step' e') =
    let same : line ≡ line' = cc in
    let one = step-one-kept hook s kept line' reply reply' new new' (subst (λ (l : Line). Step hook s l reply new) same step) step' in
    (e ∙ ap (λ (r : Reply). r ∷ []) one.0 ∙ sym e', one.1)

-- a line keeps what every state keeps
pub obeys-kept : (hook : Hook) (s : State) (words : List (List ℕ)) (here : List Reply) (new : State) → IsLawfulState s → Obeys hook s words here new → IsLawfulState new
obeys-kept hook s words here new kept (blank n e f) = subst IsLawfulState (sym f) kept
obeys-kept hook s words here new kept (unread first more are none e f) = subst IsLawfulState (sym f) kept
obeys-kept hook s words here new kept (obeyed line reply told step e) = step-kept hook s kept line reply new step

-- and so does a run
pub run-kept : (hook : Hook) (s : State) (lines : List (List ℕ)) (replies : List Reply) (new : State) → IsLawfulState s → Run hook s lines replies new → IsLawfulState new
run-kept hook s [] replies new kept r = subst IsLawfulState (sym r.1) kept
run-kept hook s (line ∷ lines) replies new kept r = run-kept hook r.2 lines r.1 new (obeys-kept hook s (words_of line) r.0 r.2 kept r.3) r.4

-- the contents that a state keeps follow one another in every state of a run
obeys-traced : (hook : Hook) (s : State) (words : List (List ℕ)) (here : List Reply) (new : State) → IsLawfulState s → AreTraced s → Obeys hook s words here new → AreTraced new
obeys-traced hook s words here new kept traced (blank n e f) = subst AreTraced (sym f) traced
obeys-traced hook s words here new kept traced (unread first more are none e f) = subst AreTraced (sym f) traced
obeys-traced hook s words here new kept traced (obeyed line reply told step e) = step-traced hook s kept traced line reply new step

pub run-traced : (hook : Hook) (s : State) (lines : List (List ℕ)) (replies : List Reply) (new : State) → IsLawfulState s → AreTraced s → Run hook s lines replies new → AreTraced new
run-traced hook s [] replies new kept traced r = subst AreTraced (sym r.1) traced
run-traced hook s (line ∷ lines) replies new kept traced r =
    run-traced hook r.2 lines r.1 new (obeys-kept hook s (words_of line) r.0 r.2 kept r.3) (obeys-traced hook s (words_of line) r.0 r.2 kept traced r.3) r.4

pub run-one : (hook : Hook) (s : State) (lines : List (List ℕ)) (replies replies' : List Reply) (new new' : State) → IsLawfulState s → Run hook s lines replies new → Run hook s lines replies' new' → (replies ≡ replies') × (new ≡ new')
run-one hook s [] replies replies' new new' kept r q = (r.0 ∙ sym q.0, r.1 ∙ sym q.1)
run-one hook s (line ∷ lines) replies replies' new new' kept r q =
    let first = obeys-one hook s (words_of line) r.0 q.0 r.2 q.2 kept r.3 q.3 in
    let rest = run-one hook q.2 lines r.1 q.1 new new' (obeys-kept hook s (words_of line) q.0 q.2 kept q.3) (subst (λ (t : State). Run hook t lines r.1 new) first.1 r.4) q.4 in
    (r.5 ∙ ap (λ (here : List Reply). here ++ r.1) first.0 ∙ ap (λ (more : List Reply). q.0 ++ more) rest.0 ∙ sym q.5, rest.1)

-- a run of the first lines is a front of the run of all
pub run-front : (hook : Hook) (s : State) (done left : List (List ℕ)) (replies all : List Reply) (mid new : State) → IsLawfulState s → Run hook s done replies mid → Run hook s (done ++ left) all new
    → (more : List Reply) × (all ≡ replies ++ more)
run-front hook s [] left replies all mid new kept r q = (all, ap (λ (rs : List Reply). rs ++ all) (sym r.0))
run-front hook s (line ∷ done) left replies all mid new kept r q =
    let first = obeys-one hook s (words_of line) r.0 q.0 r.2 q.2 kept r.3 q.3 in
    let rest = run-front hook q.2 done left r.1 q.1 mid new (obeys-kept hook s (words_of line) q.0 q.2 kept q.3) (subst (λ (t : State). Run hook t done r.1 mid) first.1 r.4) q.4 in (
      rest.0,
      q.5 ∙ ap (λ (more : List Reply). q.0 ++ more) rest.1
          ∙ ap (λ (here : List Reply). here ++ (r.1 ++ rest.0)) (sym first.0) ∙ sym (append_assoc r.0 r.1 rest.0) ∙ ap (λ (t : List Reply). t ++ rest.0) (sym r.5),
    )
