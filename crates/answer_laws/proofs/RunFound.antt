-- Each line has an answer, and each script a run.
use Rattle.std.proofs.Common.{◌≡◌, ℕ, List, [], ◌∷◌, ◌++◌, Option, Some, None, refl}
use Rattle.map_defs.specs.Refusal as why
use Rattle.map_defs.specs.Values.{Hook}
use Rattle.map_defs.specs.TextWords.{words_of}
use Rattle.machine_defs.specs.State.{State}
use Rattle.machine_defs.specs.Kept.{IsLawfulState}
use Rattle.machine_defs.specs.Script as says
use Rattle.machine_defs.specs.Script.{Line, line_of}
use Rattle.machine_defs.specs.Text.{Reply, Refused}
use Rattle.machine_defs.specs.Machine.{checks, Effect, Obeys, blank, unread, obeyed}
use Rattle.machine_laws.specs.Tracing.{AreTraced}
use Rattle.machine_laws.proofs.Runs.{obeys-kept, run-traced}
use Rattle.answer_laws.specs.Answering.{NotNot, AnswerNeeds, HasStep, HasRun}
use Rattle.answer_laws.proofs.Checked.{decided, judged_found}
use Rattle.answer_laws.proofs.EffectFound.{effect_found}

pub step_found : (hook : Hook) (s : State) (line : Line) → IsLawfulState s → AnswerNeeds line s → NotNot (HasStep hook s line)
step_found hook s line kept needs = judged_found s (Effect hook s line) (checks hook s line) (decided hook s line) (effect_found hook s kept line needs)

-- a state whose contents follow one another has what each line needs
pub needs_traced : (s : State) → AreTraced s → (line : Line) → AnswerNeeds line s
needs_traced s traced (says.Log name) = traced
needs_traced s traced line = tt

obeys_found : (hook : Hook) (s : State) (words : List (List ℕ)) → IsLawfulState s → AreTraced s → NotNot ((here : List Reply) × (new : State) × Obeys hook s words here new)
obeys_found hook s [] kept traced = λ never. never ([], s, blank refl refl refl)
obeys_found hook s (first ∷ more) kept traced = read (line_of (first ∷ more)) refl
  where
    read : (o : Option Line) → line_of (first ∷ more) ≡ o → NotNot ((here : List Reply) × (new : State) × Obeys hook s (first ∷ more) here new)
    read None e = λ never. never (Refused why.Syntax ∷ [], s, unread first more refl e refl refl)
    read (Some line) e = λ never. step_found hook s line kept (needs_traced s traced line) (λ step.
        never (step.0 ∷ [], step.1, obeyed line step.0 e step.2 refl))

pub run_found : (hook : Hook) (s : State) (lines : List (List ℕ)) → IsLawfulState s → AreTraced s → NotNot (HasRun hook s lines)
run_found hook s [] kept traced = λ never. never ([], s, (refl, refl))
run_found hook s (line ∷ lines) kept traced = λ never.
    obeys_found hook s (words_of line) kept traced (λ o.
    let traced' = run-traced hook s (line ∷ []) (o.0 ++ []) o.1 kept traced (o.0, [], o.1, o.2, (refl, refl), refl) in
    run_found hook o.1 lines (obeys-kept hook s (words_of line) o.0 o.1 kept o.2) traced' (λ rest.
    never (o.0 ++ rest.0, rest.1, (o.0, rest.0, o.1, o.2, rest.2, refl))))
